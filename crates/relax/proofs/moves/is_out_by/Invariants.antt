use Rattle.relax.proofs.Prelude.{◌≡◌, ℕ, ◌+◌, ◌<◌, ◌≤◌, false, get_or, Act, goes_in, no_row, nodes_of}
use Rattle.relax.proofs.moves.is_out_by.Given as goal

abbrev pub invariant-loop-row : goal.invariant-loop-row
invariant-loop-row l =
    (k : ℕ) → k < l.row-index → ¬ ((goes_in (Act (get_or l.rows k no_row).place (get_or l.rows k no_row).lo) (nodes_of l.p.given l.area) ≡ false) × ((get_or l.rows k no_row).lo + l.lasting ≤ l.t))
