use Rattle.instance_make.proofs.Ruling.{spread_not_refused}
use Rattle.instance_make.proofs.generating.add_spread.Goals as goal

pub add_rule-requires : goal.add_rule-requires
add_rule-requires c = rw c.in_ok-machines.ensures (spread_not_refused c.args.problem.now.given 0 c.args.g c.requires.room c.requires.group)
