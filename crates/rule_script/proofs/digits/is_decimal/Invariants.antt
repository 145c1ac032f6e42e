use Rattle.base.proofs.Public.{◌≡◌, decimal, length}
use Rattle.rule_script.proofs.digits.is_decimal.Given as goal

abbrev pub invariant-digits : goal.invariant-digits
invariant-digits l = l.rest ≡ decimal l.left → l.bytes ≡ decimal l.number

abbrev pub decreases-digits : goal.decreases-digits
decreases-digits l = length l.rest
