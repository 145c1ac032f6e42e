use Rattle.std.proofs.Common.{sym, ◌∙◌}
use Rattle.numerals.proofs.NumberLemmas.{IsUtf8-is_numeral, none_read, one_read, refused}
use Rattle.numerals.proofs.number.Goals as goal

pub unreachable-requires : goal.unreachable-requires
unreachable-requires c = c.in-Err.ensures.cases.0 (IsUtf8-is_numeral _ (sym c.is_numeral.ensures ∙ c.if-not-is_numeral.false))

pub returns-then-not-is_numeral : goal.returns-then-not-is_numeral
returns-then-not-is_numeral c = none_read c.args.word.now (sym c.is_numeral.ensures ∙ c.if-not-is_numeral.true)

pub returns-in-Ok-parse : goal.returns-in-Ok-parse
returns-in-Ok-parse c =
    let parses = rw c.in-Ok.ensures.cases.0 at c.parse.ensures.value.0 in
    one_read c.args.word.now c.parse.result c.in-Ok-parse.n (sym c.is_numeral.ensures ∙ c.if-not-is_numeral.false) parses c.in-Ok-parse.is

pub returns-in-Err-parse : goal.returns-in-Err-parse
returns-in-Err-parse c =
    let parses = rw c.in-Ok.ensures.cases.0 at c.parse.ensures.value.0 in
    refused c.args.word.now c.parse.result c.in-Err-parse.field-0 (sym c.is_numeral.ensures ∙ c.if-not-is_numeral.false) parses c.in-Err-parse.is
