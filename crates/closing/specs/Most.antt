-- Helping only: the most that machines hold on a set of nodes, at every instant.
use Rattle.std.specs.Prelude.{ℕ, ◌+◌, ◌<◌, ◌≤◌, Bool, IsTrue, if◌then◌else◌}
use Rattle.relax.specs.Prelude.{capacity_of, demand_of, held_at, Instance, IsElement, IsEnd, machine_count, Nodes, Sets, setting, Snapshot, sum_to, sure, vm}
use Rattle.cluster.specs.declared.{choices.Choice.Choice, ids.Element.Element}
use Rattle.slices.specs.declared.slice.Weight.{Weight, TheVariants.Amount, TheVariants.Image, TheVariants.Presence}

-- the most that a machine holds in one place
abbrev pub unit_of : Instance → ℕ → Weight → ℕ
unit_of p v (Amount r) = demand_of p v r
unit_of p v Presence = 1
unit_of p v Image = 1

-- a number where something is so
abbrev pub if_so : Bool → ℕ → ℕ
if_so b n = if b then n else 0

-- a machine surely holds no more on the set, at any instant
pub record IsMostSure (p : Instance) (s : Sets) (w : Weight) (set : Nodes) (v most : ℕ) : Type 0 where
  pub each : (t : ℕ) → (sure p s t).held v w set ≤ most

-- it holds no more under any end of its choices, at any instant
pub record IsMostOf (p : Instance) (s : Sets) (w : Weight) (set : Nodes) (v most : ℕ) : Type 0 where
  pub each : (t : ℕ) (c : Choice) → IsEnd (s (vm v)) c → held_at p v w set t c ≤ most

-- what the first so many machines surely hold, and what they hold with one of them set to an end of its choices, is no more than an amount, at any instant
pub record AreWithin (p : Instance) (s : Sets) (w : Weight) (set : Nodes) (count total more : ℕ) : Type 0 where
  pub base : (t : ℕ) → sum_to count (λ k. (sure p s t).held k w set) ≤ total
  pub each : (v t : ℕ) (c : Choice) → v < count → IsEnd (s (vm v)) c → sum_to count (λ k. (sure p s t).held k w set) + held_at p v w set t c ≤ total + more + (sure p s t).held v w set

-- so is what all do
pub record StaysWithin (p : Instance) (s : Sets) (w : Weight) (set : Nodes) (amount : ℕ) : Type 0 where
  pub base : (t : ℕ) → sum_to (machine_count p) (λ k. (sure p s t).held k w set) ≤ amount
  pub each : (v t : ℕ) (c : Choice) → v < machine_count p → IsEnd (s (vm v)) c → sum_to (machine_count p) (λ k. (sure p s t).held k w set) + held_at p v w set t c ≤ amount + (sure p s t).held v w set

-- the node is usable at every instant, also with one element set to an end of its choices
pub record StaysUsable (p : Instance) (s : Sets) (n : ℕ) : Type 0 where
  pub base : (t : ℕ) → IsTrue ((sure p s t).usable n)
  pub ends : (t : ℕ) (e : Element) (c : Choice) → IsElement p e → IsEnd (s e) c → IsTrue ((sure p (setting e c s) t).usable n)

-- what the first so many nodes have of a resource where they are in the set and usable
abbrev pub room_to : Instance → Snapshot → ℕ → Nodes → ℕ → ℕ
room_to p b r set count = sum_to count (λ n. if set n then (if b.usable n then capacity_of p n r else 0) else 0)

-- at every instant they have so much, also with one element set to an end of its choices
pub record HasSteadyRoom (p : Instance) (s : Sets) (r : ℕ) (set : Nodes) (count room : ℕ) : Type 0 where
  pub base : (t : ℕ) → room ≤ room_to p (sure p s t) r set count
  pub ends : (t : ℕ) (e : Element) (c : Choice) → IsElement p e → IsEnd (s e) c → room ≤ room_to p (sure p (setting e c s) t) r set count
