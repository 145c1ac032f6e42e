use Rattle.load_bounds.proofs.Prelude.{ℕ, ◌*◌, ◌<◌, ◌≤◌, max_capacity, sets}
use Rattle.load_bounds.specs.Prelude.{IsAtStake}
use Rattle.load_bounds.proofs.LooseLemmas.{AreLasting}
use Rattle.load_bounds.proofs.loose_room.loose_room.Given as goal

abbrev pub invariant-loop-i : goal.invariant-loop-i
invariant-loop-i l = record {
  lasting : AreLasting l.p.given (sets l.g) l.r l.x l.i l.total;
  stakes : (n : ℕ) → n < l.i → IsAtStake l.p.given (sets l.g) l.r l.x n l.at_stake;
  small : l.total ≤ l.i * max_capacity;
  small_stake : l.at_stake ≤ max_capacity;
}
