-- What the types of this crate keep true of their fields.
use Rattle.std.specs.Prelude.{◌≡◌, ◌<◌, ◌≤◌, ℕ, ◌+◌, ◌/◌, ◌^◌, ◌==◌, min, true, false, List, length, slice_index, slice_index_or, if◌then◌else◌}
use Rattle.std.specs.List.{All}
use Rattle.base.specs.Sums.{sum_to}
use Rattle.domains.specs.declared.parts.Row.{Row}
use Rattle.domains.specs.Choices.{DomainView, Climbs, is_one, staying}

-- rows, and for how many there is memory
pub record RowsView : Type 0 where
  pub rows : List Row
  pub slots : ℕ

-- slots of memory of which the first are free and the others are rows: so many rows can be had without memory
pub record HaveRoom (items : List Row) (capacity free most : ℕ) : Type 0 where
  pub within : free ≤ length items
  pub fit : length items ≤ free + most
  pub room : most ≤ capacity

-- rows of a domain: their places climb, none is empty, and there is memory for them
pub record AreKept (l : RowsView) : Type 0 where
  pub climb : Climbs 0 l.rows
  pub fit : length l.rows ≤ l.slots

-- a list of domains goes in blocks of 64, and all that come later are in the last
abbrev pub block_count : ℕ
block_count = 64

abbrev pub block_of : ℕ → ℕ
block_of i = min (i / 64) 63

-- 1 for a domain that has not exactly one choice
abbrev pub unfixed : DomainView → ℕ
unfixed d = if is_one d then 0 else 1

-- 1 for the domain of that number, where it is in the block and has not exactly one choice
abbrev pub unfixed_in : List DomainView → ℕ → ℕ → ℕ
unfixed_in ds block i = if block_of i == block then unfixed (slice_index_or ds i staying) else 0

-- each block's number says how many of its domains, of the first so many, have not exactly one choice
pub record AreCounted (unfixed_counts : List ℕ) (ds : List DomainView) (count : ℕ) : Type 0 where
  pub blocks : length unfixed_counts ≡ block_count
  pub counts : (block : ℕ) → block < block_count → slice_index unfixed_counts block ≡ sum_to count (unfixed_in ds block)

-- a list of domains, whose rows climb, with its counts; no more than numbers of 32 bits name
pub record AreListed (unfixed_counts : List ℕ) (ds : List DomainView) : Type 0 where
  pub few : length ds ≤ 2 ^ 32
  pub climb : All (λ d. Climbs 0 d.rows) ds
  pub counted : AreCounted unfixed_counts ds (length ds)

-- from a place of the list up to another, each domain has exactly one choice
abbrev pub AreFixed : List DomainView → ℕ → ℕ → Type 0
AreFixed ds from to = (k : ℕ) → from ≤ k → k < to → is_one (slice_index_or ds k staying) ≡ true

-- the first domain from a place of the list on that has not
pub record IsFirstFrom (ds : List DomainView) (from i : ℕ) : Type 0 where
  pub from_there : from ≤ i
  pub within : i < length ds
  pub unfixed_there : is_one (slice_index_or ds i staying) ≡ false
  pub before : AreFixed ds from i
