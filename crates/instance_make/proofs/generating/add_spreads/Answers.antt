use Rattle.instance_make.proofs.Ruling.{room_later, spreads_more}
use Rattle.instance_make.proofs.generating.add_spreads.Goals as goal

pub add_spread-requires-clause-room : goal.add_spread-requires-clause-room
add_spread-requires-clause-room c = rw c.loop-g.invariant (room_later c.args.problem.now.given c.loop-g.g c.requires c.loop-g-test.true)

pub loop-g-preserved : goal.loop-g-preserved
loop-g-preserved c = spreads_more c.args.problem.now.given c.loop-g.g c.loop-g.problem.given c.add_spread.new.problem.given c.loop-g.invariant c.in_ok-add_spread.ensures
