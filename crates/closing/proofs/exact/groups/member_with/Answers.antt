use Rattle.closing.proofs.Prelude.{arith, FailAtEnds, IsGroupWith, sets, vm, each_member}
use Rattle.closing.proofs.exact.groups.member_with.Goals as goal

pub returns-clause-none : goal.returns-clause-none
returns-clause-none c =
    each_member (λ v. FailAtEnds (IsGroupWith c.args.p.now.given (sets c.args.g.now) c.args.constraint.now c.args.t v) (sets c.args.g.now (vm v))) c.args.machines.now c.loop-i.i (omega arith) c.loop-i.invariant
