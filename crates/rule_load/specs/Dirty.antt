-- Which loads are dirty.
use Rattle.std.specs.Prelude.{◌≡◌, ◌≢◌, ℕ, ◌<◌, true, false, List, [], Option, length, slice_index_or}
use Rattle.std.specs.List.{Contains}
use Rattle.rule_load.specs.Words.{comes_by, goes_in, has_come, hosted_in, Instance, least, leave_of, one, state_of, Choice, Arrival, Levels}

-- what was dirty still is, and what is not is spared
pub record AreSpared (spared : ℕ → Type 0) (m n : Levels) : Type 0 where
  pub older : n.older ≡ m.older
  pub count : length n.top ≡ length m.top
  pub kept : (k : ℕ) → k < length n.top → slice_index_or n.top k false ≡ false → (slice_index_or m.top k false ≡ false) × spared k

-- the machine has choices, surely keeps its host until the same instant as before, and acts nowhere on it
pub record KeepsHost (p : Instance) (v : ℕ) (old now : List Choice) (leave : ℕ) : Type 0 where
  pub some : now ≢ []
  pub same : leave ≡ least (leave_of p v) old
  pub away : (n : ℕ) → hosted_in (state_of p v) (one n) ≡ true → (c : Choice) → Contains now c → goes_in c (one n) ≡ false

-- wherever all its choices come by an instant, all those that it had before do
abbrev pub CameBefore : List Choice → Option Arrival → Type 0
CameBefore old come = (n t : ℕ) → comes_by n t come ≡ true → (c : Choice) → Contains old c → has_come n t c ≡ true
