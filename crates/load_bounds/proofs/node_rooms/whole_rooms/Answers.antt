use Rattle.load_bounds.proofs.NodeRoomLemmas.{whole_push}
use Rattle.load_bounds.proofs.node_rooms.whole_rooms.Goals as goal

pub loop-r-preserved : goal.loop-r-preserved
loop-r-preserved c = rw c.in_ok-push.ensures.items (whole_push c.args.p.now.given c.loop-r.r c.loop-r.rooms.items c.whole_room.result c.loop-r.invariant c.whole_room.ensures)
