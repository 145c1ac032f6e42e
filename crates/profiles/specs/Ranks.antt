-- Where each number of a list stands in it, so that none is sought there, and how long the list was at each mark.
use Rattle.std.specs.Prelude.{◌≡◌, ℕ, ◌<◌, ◌≤◌, List, length, slice_index_or}

-- of each number of the list there is a rank, which says where it stands
pub record AreRanks (xs ranks : List ℕ) : Type 0 where
  pub room : (i : ℕ) → i < length xs → slice_index_or xs i 0 < length ranks
  pub each : (i : ℕ) → i < length xs → slice_index_or ranks (slice_index_or xs i 0) 0 ≡ i

-- no mark is past the length of the list, nor past a later mark
pub record AreMarks (marks : List ℕ) (many : ℕ) : Type 0 where
  pub within : (j : ℕ) → j < length marks → slice_index_or marks j 0 ≤ many
  pub climbs : (i j : ℕ) → i ≤ j → j < length marks → slice_index_or marks i 0 ≤ slice_index_or marks j 0

pub record IsRanked (xs ranks marks : List ℕ) : Type 0 where
  pub ranked : AreRanks xs ranks
  pub marked : AreMarks marks (length xs)
