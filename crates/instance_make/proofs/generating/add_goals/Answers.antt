use Rattle.instance_make.proofs.Ruling.{offline_not_refused, online_not_refused, room_after}
use Rattle.instance_make.proofs.generating.add_goals.Goals as goal

pub add_rule-requires : goal.add_rule-requires
add_rule-requires c = rw (c.insert.ensures.set, c.new-emptied.ensures.set) (offline_not_refused c.args.problem.now.given 1 c.args.k c.requires.room c.requires.node)

pub add_rule-requires-2 : goal.add_rule-requires-2
add_rule-requires-2 c = rw (c.in_ok-add_rule.ensures, c.others.ensures) (online_not_refused _ 0 c.args.k (room_after c.args.problem.now.given 1 _ c.requires.room) c.requires.node)
