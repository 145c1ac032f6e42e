use Rattle.load_bounds.proofs.Prelude.{◌≡◌, ◌*◌, ◌≤◌, cond, capacity_of, is_steady, max_capacity, sets, sum_to}
use Rattle.load_bounds.proofs.room.steady_room.Given as goal

abbrev pub invariant-loop-i : goal.invariant-loop-i
invariant-loop-i l = record {
  total : l.total ≡ sum_to l.i (λ n. cond (is_steady l.p.given (sets l.g) l.x n) (capacity_of l.p.given n l.r) 0);
  small : l.total ≤ l.i * max_capacity;
}
