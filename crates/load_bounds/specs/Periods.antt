-- What is so at each instant of a period.
use Rattle.std.specs.Prelude.{ℕ, ◌+◌, ◌<◌, ◌≤◌, ◌&&◌, List, nat_lt, if◌then◌else◌}
use Rattle.std.specs.List.{Contains}
use Rattle.load_bounds.specs.Words.{base, capacity_of, comes_by, gain, held_at, hosted_in, Instance, machine_count, node, node_count, Nodes, one, room, Sets, setting, state_of, sure, usable_at, vm, IsEnd, Choice, Weight, Amount, Standing}
use Rattle.load_bounds.specs.declared.period.Period.{Period}

-- the instant is one of the period
abbrev pub IsDuring : Period → ℕ → Type 0
IsDuring x t = (x.from ≤ t) × (t ≤ x.to)

-- ---- machines

-- what a machine with these numbers surely has on node n during the period, at the most: what it has left by the first instant is gone,
-- and what has come by the last is there
abbrev pub most_kept : Instance → ℕ → Weight → ℕ → Period → Standing → ℕ
most_kept p v w n x k =
    (if hosted_in (state_of p v) (one n) && nat_lt x.from k.leave then base p v w else 0) + (if comes_by n x.to k.come then gain p v w n else 0)

-- what each machine surely uses on a set of nodes is at most `most` of it
pub record AreMost (p : Instance) (s : Sets) (r : ℕ) (set : Nodes) (x : Period) (most : ℕ → ℕ) : Type 0 where
  pub each : (v t : ℕ) → v < machine_count p → IsDuring x t → (sure p s t).held v (Amount r) set ≤ most v

-- under a choice machine v uses no more than m
pub record IsMostUnder (p : Instance) (v : ℕ) (c : Choice) (r : ℕ) (set : Nodes) (x : Period) (m : ℕ) : Type 0 where
  pub each : (t : ℕ) → IsDuring x t → held_at p v (Amount r) set t c ≤ m

-- nor under any end of these choices
pub record IsMost (p : Instance) (v : ℕ) (cs : List Choice) (r : ℕ) (set : Nodes) (x : Period) (m : ℕ) : Type 0 where
  pub each : (c : Choice) (t : ℕ) → IsEnd cs c → IsDuring x t → held_at p v (Amount r) set t c ≤ m

-- where so much is spare, no machine uses more under any end of its choices than that and `most` of it
pub record MachinesFit (p : Instance) (s : Sets) (r : ℕ) (set : Nodes) (x : Period) (most : ℕ → ℕ) (spare : ℕ) : Type 0 where
  pub each : (v : ℕ) → v < machine_count p → IsMost p v (s (vm v)) r set x (spare + most v)

-- ---- nodes

-- the nodes of a set have so much room
pub record HasRoom (p : Instance) (s : Sets) (r : ℕ) (set : Nodes) (x : Period) (free : ℕ) : Type 0 where
  pub at : (t : ℕ) → IsDuring x t → free ≤ room p (sure p s t) r set

-- node n has no more than what it has under each of its choices and what is at stake
abbrev pub IsAtStake : Instance → Sets → ℕ → Period → ℕ → ℕ → Type 0
IsAtStake p s r x n stake = (c : Choice) (t : ℕ) → Contains (s (node n)) c → IsDuring x t →
    (if (sure p s t).usable n then capacity_of p n r else 0) ≤ stake + (if usable_at p n t c then capacity_of p n r else 0)

-- and so they do with any one node set to any of its choices
pub record NodesFit (p : Instance) (s : Sets) (r : ℕ) (set : Nodes) (x : Period) (used : ℕ) : Type 0 where
  pub each : (n : ℕ) (c : Choice) (t : ℕ) → n < node_count p → Contains (s (node n)) c → IsDuring x t → used ≤ room p (sure p (setting (node n) c s) t) r set
