use Rattle.rule_pair.proofs.Prelude.{arith}
use Rattle.rule_pair.specs.Prelude.{in_part, keeping, sets}
use Rattle.rule_pair.proofs.KeptLemmas.{present_kept}
use Rattle.rule_pair.proofs.refuting.is_at.Goals as goal

pub returns-in-Some : goal.returns-in-Some
returns-in-Some c = λ on.
    present_kept c.args.p.now.given (keeping c.args.e (in_part c.args.part) (sets c.args.g.now)) c.args.v.0 c.args.n.0 c.args.t c.in-Some.k (omega (arith, c.ranges.t.fits)) c.in-Some.ensures (c.is_there.ensures on)
