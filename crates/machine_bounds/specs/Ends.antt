-- Helping only: when nodes are given up, and which machines are known not to start there before.
use Rattle.std.specs.Prelude.{◌≡◌, ℕ, ◌/◌, ◌%◌, ◌<◌, ◌≤◌, List, slice_index_or}
use Rattle.std.specs.Int.{bit_at}
use Rattle.relax.specs.Prelude.{max_nodes}
use Rattle.machine_bounds.specs.declared.ends.Ends.{Ends}
use Rattle.machine_bounds.specs.Gone.{bound_count, gone_at}

-- each node of these that are given up after the instant has its bit set in the words
pub record HaveBits (us : List ℕ) (from : ℕ) (ws : List ℕ) : Type 0 where
  pub low : (n : ℕ) → from < slice_index_or us n 0 → n < max_nodes
  pub each : (n : ℕ) → from < slice_index_or us n 0 → bit_at (slice_index_or ws (n / 64) 0) (n % 64) ≡ 1

-- those that are given up after an instant come before one, and have their bits
pub record AreEnds (from : ℕ) (x : Ends) : Type 0 where
  pub past : (n : ℕ) → from < slice_index_or x.until n 0 → n < x.past
  pub nodes : HaveBits x.until from x.nodes

-- each bound whose bit is set is no earlier than its node is given up
pub record AreEnough (us bounds ws : List ℕ) : Type 0 where
  pub each : (i : ℕ) → i < bound_count → bit_at (slice_index_or ws (i / 64) 0) (i % 64) ≡ 1 → slice_index_or us (i % max_nodes) 0 ≤ slice_index_or bounds i 0

-- a bound at node n has its bit set in the words of machine w, and among those that are enough
pub record IsKnown (gs ws : List ℕ) (w n : ℕ) : Type 0 where
  pub bound : ℕ
  pub low : bound < bound_count
  pub node : bound % max_nodes ≡ n
  pub gone : bit_at (slice_index_or gs (gone_at w bound) 0) (bound % 64) ≡ 1
  pub enough : bit_at (slice_index_or ws (bound / 64) 0) (bound % 64) ≡ 1
