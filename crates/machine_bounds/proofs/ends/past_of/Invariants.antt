use Rattle.base.proofs.Public.{slice_index_or, ℕ, ◌<◌}
use Rattle.machine_bounds.proofs.ends.past_of.Given as goal

abbrev pub invariant-loop-n : goal.invariant-loop-n
invariant-loop-n l = (k : ℕ) → k < l.n → l.from < slice_index_or l.until k 0 → k < l.past
