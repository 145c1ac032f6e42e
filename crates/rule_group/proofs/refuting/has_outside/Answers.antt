use Rattle.rule_group.proofs.Prelude.{arith}
use Rattle.rule_group.specs.Prelude.{group_nodes, groups_seen, seen, sure}
use Rattle.rule_group.proofs.ScatteredLemmas.{outside_at}
use Rattle.rule_group.proofs.refuting.has_outside.Goals as goal

pub returns-then-is_told_outside : goal.returns-then-is_told_outside
returns-then-is_told_outside c =
    λ yes. outside_at (sure c.args.p.now.given (seen c.args.view.now.region.now c.args.view.now.lens) c.args.t) c.args.machines.now (group_nodes (groups_seen c.args.groups.now) c.args.i) 0 _ (omega arith) (c.is_told_outside.ensures c.if-is_told_outside.true)

pub returns-then-is_outside : goal.returns-then-is_outside
returns-then-is_outside c =
    λ yes. outside_at (sure c.args.p.now.given (seen c.args.view.now.region.now c.args.view.now.lens) c.args.t) c.args.machines.now (group_nodes (groups_seen c.args.groups.now) c.args.i) c.most_settled-first.result _ (omega arith) (c.is_outside.ensures c.if-is_outside.true)

pub returns-then-is_outside-2 : goal.returns-then-is_outside-2
returns-then-is_outside-2 c =
    λ yes. outside_at (sure c.args.p.now.given (seen c.args.view.now.region.now c.args.view.now.lens) c.args.t) c.args.machines.now (group_nodes (groups_seen c.args.groups.now) c.args.i) c.loop-k.k _ (omega arith) (c.is_outside-then-k-first.ensures c.if-is_outside-2.true)
