-- The search for the least broken instant.
use Rattle.std.specs.Prelude.{ℕ, ◌+◌, ◌<◌, ◌≤◌, ◌==◌, length, slice_get, IsTrue}
use Rattle.placement_rules.specs.Prelude.{applies, Choices, continuous_at, HoldsAt, Instance, KeepsAllAt, snapshot_at}
use Rattle.judge.specs.Standing.{Stands}

-- an instant at which a rule is broken, or one past the horizon
pub record IsSuspect (p : Instance) (plan : Choices) (t : ℕ) : Type 0 where
  pub bounded : t ≤ p.horizon + 1
  pub broken : t ≤ p.horizon → ¬ KeepsAllAt p plan t

-- all loads fit and all machines stand on usable nodes at an instant
abbrev pub StandsAt : Instance → Choices → ℕ → Type 0
StandsAt p plan t = Stands p (snapshot_at p plan t)

-- the same at each instant before another
abbrev pub StandsBefore : Instance → Choices → ℕ → Type 0
StandsBefore p plan b = (t : ℕ) → t < b → StandsAt p plan t

-- the constraint of a number holds where it applies
abbrev pub IsMetAt : Instance → Choices → ℕ → ℕ → Type 0
IsMetAt p plan t c = IsTrue (applies p (t == p.horizon) c) → HoldsAt p plan t c

-- the same at each instant before another
unfoldable pub IsMetBefore : Instance → Choices → ℕ → ℕ → Type 0
IsMetBefore p plan b c = (t : ℕ) → t < b → t ≤ p.horizon → IsMetAt p plan t c

-- the first k constraints hold where they apply
abbrev pub ConstraintsHold : Instance → Choices → ℕ → ℕ → Type 0
ConstraintsHold p plan t k = (c : ℕ) → c < k → IsMetAt p plan t c

-- the first constraint that applies and does not hold
pub record IsFirstUnmet (p : Instance) (plan : Choices) (t c : ℕ) : Type 0 where
  pub in_range : c < length p.constraints
  pub applied : IsTrue (applies p (t == p.horizon) c)
  pub broken : ¬ HoldsAt p plan t c
  pub earlier : ConstraintsHold p plan t c

-- ---- what has been tried

-- a number of a constraint that is to hold at each instant
pub record IsContinuous (p : Instance) (c : ℕ) : Type 0 where
  pub in_range : c < length p.constraints
  pub continuous : IsTrue (continuous_at (slice_get p.constraints c))

-- the search went on to a suspect that is no later
pub record IsLower (p : Instance) (plan : Choices) (old new : ℕ) : Type 0 where
  pub suspect : IsSuspect p plan new
  pub lower : new ≤ old
