use Rattle.instance_make.proofs.Ruling.{ban_not_refused, capacity_not_refused, room_after}
use Rattle.instance_make.proofs.generating.add_limits.Goals as goal

pub add_rule-requires : goal.add_rule-requires
add_rule-requires c = rw (c.in_ok-machines.ensures, c.insert.ensures.set, c.new-last.ensures.set) (ban_not_refused c.args.problem.now.given 1 c.requires)

pub add_rule-requires-2 : goal.add_rule-requires-2
add_rule-requires-2 c = rw (c.in_ok-add_rule.ensures, c.nodes.ensures) (capacity_not_refused _ 0 (room_after c.args.problem.now.given 1 _ c.requires))
