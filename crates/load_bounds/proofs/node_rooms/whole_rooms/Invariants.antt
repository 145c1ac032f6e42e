use Rattle.load_bounds.specs.Prelude.{AreWholeRooms}
use Rattle.load_bounds.proofs.node_rooms.whole_rooms.Given as goal

abbrev pub invariant-loop-r : goal.invariant-loop-r
invariant-loop-r l = AreWholeRooms l.p.given l.r l.rooms.items
