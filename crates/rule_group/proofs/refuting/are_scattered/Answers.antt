use Rattle.rule_group.proofs.Prelude.{arith, below_more, ltb-true}
use Rattle.rule_group.specs.Prelude.{group_nodes, groups_seen, HasOutside, seen, sure}
use Rattle.rule_group.proofs.ScatteredLemmas.{all_scattered}
use Rattle.rule_group.proofs.refuting.are_scattered.Goals as goal

pub loop-i-preserved : goal.loop-i-preserved
loop-i-preserved c =
    below_more (λ k. HasOutside (sure c.args.p.now.given (seen c.args.view.now.region.now c.args.view.now.lens) c.args.t) c.args.machines.now (group_nodes (groups_seen c.args.groups.now) k)) c.loop-i.i c.loop-i.invariant (c.lacks_member.ensures c.if-not-lacks_member.false)

pub returns : goal.returns
returns c =
    λ yes. all_scattered (sure c.args.p.now.given (seen c.args.view.now.region.now c.args.view.now.lens) c.args.t) c.args.machines.now c.args.p.now.given (groups_seen c.args.groups.now) (omega (arith, ltb-true _ _ yes)) (λ k low. c.loop-i.invariant k (omega arith))
