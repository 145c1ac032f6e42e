use Rattle.load_bounds.proofs.Prelude.{◌≡◌, ℕ, ◌<◌, sets}
use Rattle.load_bounds.specs.Prelude.{AreNodes, IsListedOrLasts}
use Rattle.load_bounds.proofs.node_rooms.NodeRooms.put_all.Given as goal

abbrev pub invariant-loop-i : goal.invariant-loop-i
invariant-loop-i l = record {
  rooms : l.self.rooms ≡ l.initial.self.rooms;
  nodes : AreNodes l.p.given l.self.leavers;
  told : (n : ℕ) → n < l.i → IsListedOrLasts l.p.given (sets l.g) n l.self.leavers;
}
