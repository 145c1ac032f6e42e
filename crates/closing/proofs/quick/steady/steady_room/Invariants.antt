use Rattle.closing.proofs.Prelude.{◌*◌, ◌≤◌, HasSteadyRoom, max_capacity, nodes_of, sets}
use Rattle.closing.proofs.quick.steady.steady_room.Given as goal

abbrev pub invariant-loop-i : goal.invariant-loop-i
invariant-loop-i l = record {
  room : HasSteadyRoom l.p.given (sets l.g) l.r (nodes_of l.p.given l.area) l.i l.total;
  small : l.total ≤ l.i * max_capacity;
}
