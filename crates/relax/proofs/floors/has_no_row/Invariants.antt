use Rattle.relax.proofs.Prelude.{◌≢◌, ℕ, ◌+◌, ◌-◌, ◌<◌, ◌≤◌, length, get_or, place_index, Row}
use Rattle.relax.proofs.floors.has_no_row.Given as goal

abbrev pub invariant-loop-k : goal.invariant-loop-k
invariant-loop-k l =
    (k : ℕ) (d : Row) → (length l.rows + l.fn.n.0) - l.fn.count ≤ k → k < l.k → k < length l.rows → place_index (get_or l.rows k d).place ≢ l.fn.n.0 + 1
