use Rattle.rule_group.proofs.Prelude.{arith, not}
use Rattle.rule_group.specs.Prelude.{group_nodes, groups_seen, seen, sets}
use Rattle.rule_group.proofs.ElsewhereLemmas.{same_present}
use Rattle.rule_group.proofs.refuting.is_told_outside.Goals as goal

pub returns : goal.returns
returns c =
    λ yes. same_present c.args.p.now.given (seen c.args.view.now.region.now c.args.view.now.lens) (sets c.args.view.now.region.now) c.args.v.0 c.args.t (λ n. not (group_nodes (groups_seen c.args.groups.now) c.args.i n))
    (c.is_narrowed.ensures c.if-is_narrowed.false c.args.view.now.region.now) (c.stays_elsewhere.ensures yes c.args.t (omega (arith, c.ranges.t.fits)))
