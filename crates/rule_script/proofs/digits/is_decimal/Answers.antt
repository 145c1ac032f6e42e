use Rattle.base.proofs.Public.{◌∙◌, arith, sym}
use Rattle.rule_script.proofs.DigitLemmas.{digit_last, digit_taken}
use Rattle.rule_script.proofs.digits.is_decimal.Goals as goal

pub returns-then-left-lt10 : goal.returns-then-left-lt10
returns-then-left-lt10 c = λ is. digit_last c.digits.rest.now c.args.bytes.now c.digits.left c.args.number c.digit_of.result c.in-len1-up.len_at_least c.digits.invariant c.if-last-digit_of.false c.digit_of.ensures c.if-left-lt10.true (sym c.is_empty.ensures ∙ is)

pub digits-preserved : goal.digits-preserved
digits-preserved c = digit_taken c.digits.rest.now c.args.bytes.now c.digits.left c.args.number c.digit_of.result c.in-len1-up.len_at_least c.digits.invariant c.if-last-digit_of.false c.digit_of.ensures (omega (arith, c.digits.auto.left-fits)) c.if-left-lt10.false
