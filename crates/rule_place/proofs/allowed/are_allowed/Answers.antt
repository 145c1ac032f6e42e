use Rattle.rule_place.proofs.Prelude.{arith, IsAllowed, sets, each_member}
use Rattle.rule_place.proofs.allowed.are_allowed.Goals as goal

pub returns : goal.returns
returns c = λ yes. each_member (λ v. IsAllowed c.args.p.now.given (sets c.args.g.now) c.args.constraint.now v) c.args.machines.now c.loop-i.i (omega arith) c.loop-i.invariant
