-- Periods during which nothing is broken.
use Rattle.std.specs.Prelude.{ℕ, ◌+◌, ◌<◌, ◌≤◌}
use Rattle.load_bounds.specs.Periods.{IsDuring}
use Rattle.load_bounds.specs.declared.period.Period.{Period}
use Rattle.rule_load.specs.Words.{Instance, IsFreeOf, IsOverloaded, Nodes, Sets, Snapshot}

-- a condition is met at no instant of the period, nor with any one element set to an end of its choices
pub record IsFreeDuring (met : Snapshot → Type 0) (p : Instance) (s : Sets) (x : Period) : Type 0 where
  pub each : (t : ℕ) → IsDuring x t → IsFreeOf met p s t

-- a set of nodes is overloaded at no instant from one on and before a later one, which is the one after the horizon at the latest
pub record IsFreePast (p : Instance) (s : Sets) (set : Nodes) (from until : ℕ) : Type 0 where
  pub later : from < until
  pub most : until ≤ p.horizon + 1
  pub clean : (t : ℕ) → from ≤ t → t < until → IsFreeOf (IsOverloaded p set) p s t
