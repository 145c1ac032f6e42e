use Rattle.load_bounds.proofs.Prelude.{◌≡◌, ◌-◌, take, capacity_of, sum_by}
use Rattle.load_bounds.proofs.node_rooms.NodeRooms.room.Given as goal

abbrev pub invariant-loop-i : goal.invariant-loop-i
invariant-loop-i l = l.total ≡ l.whole.total - sum_by (λ n. capacity_of l.p.given n l.r) (take l.i l.self.leavers)
