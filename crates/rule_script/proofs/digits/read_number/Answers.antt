use Rattle.base.proofs.Public.{◌∙◌, sym}
use Rattle.rule_script.proofs.DigitLemmas.{one_digit}
use Rattle.rule_script.proofs.digits.read_number.Goals as goal

pub returns-in-len1 : goal.returns-in-len1
returns-in-len1 c = one_digit c.args.bytes.now c.in-len1.len_at_least c.in-len1.len_below (sym c.is_ascii_digit.ensures.value ∙ c.if-is_ascii_digit.true)
