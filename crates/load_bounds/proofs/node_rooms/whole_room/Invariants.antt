use Rattle.load_bounds.proofs.Prelude.{◌≡◌, ℕ, ◌*◌, ◌<◌, ◌≤◌, capacity_of, max_capacity, sum_to}
use Rattle.load_bounds.proofs.node_rooms.whole_room.Given as goal

abbrev pub invariant-loop-i : goal.invariant-loop-i
invariant-loop-i l = record {
  total : l.total ≡ sum_to l.i (λ n. capacity_of l.p.given n l.r);
  stake : (n : ℕ) → n < l.i → capacity_of l.p.given n l.r ≤ l.at_stake;
  small : l.total ≤ l.i * max_capacity;
  small_stake : l.at_stake ≤ max_capacity;
}
