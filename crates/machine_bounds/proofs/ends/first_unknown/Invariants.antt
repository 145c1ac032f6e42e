use Rattle.base.proofs.Public.{slice_index_or, ℕ, ◌<◌, ◌≡◌}
use Rattle.std.proofs.Common.{◌*◌, ◌/◌, ◌%◌}
use Rattle.std.specs.Int.{bit_at}
use Rattle.machine_bounds.specs.Prelude.{IsKnown}
use Rattle.machine_bounds.proofs.ends.first_unknown.Given as goal

abbrev pub invariant-loop-k : goal.invariant-loop-k
invariant-loop-k l = (n : ℕ) → n < 64 * l.k → bit_at (slice_index_or l.ends.nodes (n / 64) 0) (n % 64) ≡ 1 → IsKnown l.gone.words.top l.ends.enough l.fn.w.0 n
