use Rattle.rule_group.proofs.Prelude.{arith, each_member}
use Rattle.rule_group.specs.Prelude.{FitsMember, groups_seen, sets}
use Rattle.rule_group.proofs.together.members_fit.Goals as goal

pub returns : goal.returns
returns c =
    λ yes. each_member (λ v. FitsMember c.args.p.now.given (sets c.args.g.now) c.args.always (groups_seen c.args.groups.now) c.args.common.now v) c.args.machines.now c.loop-i.i (omega arith) c.loop-i.invariant
