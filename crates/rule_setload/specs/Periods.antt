-- Helping only: what machines hold on a set of nodes during a period, at the most and surely.
use Rattle.std.specs.Prelude.{◌≡◌, ◌⊎◌, ℕ, ◌+◌, ◌<◌, ◌≤◌, ◌||◌, ◌==◌, Bool, true, false, nat_le, IsTrue}
use Rattle.rule_constraint.specs.Prelude.{goes_in, held_at, Instance, IsEnd, machine_count, Nodes, Sets, sum_to, sure, unit_of, vm}
use Rattle.cluster.specs.Sets.{has_machine}
use Rattle.cluster.specs.declared.choices.Choice.{Choice}
use Rattle.cluster.specs.declared.choices.Choice.TheVariants.{Act, Idle}
use Rattle.slices.specs.declared.slice.Weight.{Weight}
use Rattle.domains.specs.declared.parts.Row.{Row}
use Rattle.rule_setload.specs.Amounts.{IsExtra, stay_of}
use Rattle.rule_setload.specs.declared.concerned.Members.{Members}
use Rattle.power_bounds.specs.Prelude.{IsDuring}
use Rattle.power_bounds.specs.declared.period.Period.{Period}
use Rattle.rule_setload.specs.declared.span.Span.{Span}

-- more than can be spare anywhere
abbrev pub max_spare : ℕ
max_spare = 1_000_000_000_000_000_000

-- whether the action of a choice has started by t
abbrev pub has_started : ℕ → Choice → Bool
has_started t Idle = false
has_started t (Act place start) = nat_le start t

-- ---- one machine

-- under the choice machine v holds no more than m
pub record IsShare (p : Instance) (w : Weight) (set : Nodes) (v : ℕ) (c : Choice) (x : Period) (m : ℕ) : Type 0 where
  pub each : (t : ℕ) → IsDuring x t → held_at p v w set t c ≤ m

-- it surely holds no more than m, or no less
pub record HoldsMost (p : Instance) (s : Sets) (w : Weight) (set : Nodes) (v : ℕ) (x : Period) (m : ℕ) : Type 0 where
  pub each : (t : ℕ) → IsDuring x t → (sure p s t).held v w set ≤ m

pub record HoldsLeast (p : Instance) (s : Sets) (w : Weight) (set : Nodes) (v : ℕ) (x : Period) (m : ℕ) : Type 0 where
  pub each : (t : ℕ) → IsDuring x t → m ≤ (sure p s t).held v w set

-- under no end of its choices does it hold more than what is spare and what it surely holds
pub record IsFit (p : Instance) (s : Sets) (w : Weight) (set : Nodes) (v : ℕ) (x : Period) (spare : ℕ) : Type 0 where
  pub each : (t : ℕ) (c : Choice) → IsDuring x t → IsEnd (s (vm v)) c → held_at p v w set t c ≤ spare + (sure p s t).held v w set

-- it has nothing on the nodes at present, and surely brings nothing there
pub record IsAside (p : Instance) (s : Sets) (w : Weight) (set : Nodes) (v : ℕ) : Type 0 where
  pub stays : stay_of p w set v ≡ 0
  pub extra : IsExtra p s w set v 0

-- the row is at no node of the set, or its starts are later
abbrev pub IsLate : Nodes → ℕ → Row → Type 0
IsLate set by row = (goes_in (Act row.place 0) set ≡ false) ⊎ (by < row.lo)

-- ---- all machines

-- each node of the set has a number from the first one on and before the end
abbrev pub IsSpan : Nodes → Span → Type 0
IsSpan set x = (m : ℕ) → set m ≡ true → (x.first ≤ m) × (m < x.end)

-- whoever is none of these is aside, and nobody brings more than the most
pub record AreConcerned (p : Instance) (s : Sets) (w : Weight) (set : Nodes) (members : Members) : Type 0 where
  pub others : (v : ℕ) → v < machine_count p → has_machine members.machines v ≡ false → IsAside p s w set v
  pub span : IsSpan set members.span
  pub most : (v : ℕ) → v < machine_count p → unit_of p v w ≤ members.most

-- together they surely hold no more than this
pub record AreWithin (p : Instance) (s : Sets) (w : Weight) (set : Nodes) (x : Period) (total : ℕ) : Type 0 where
  pub each : (t : ℕ) → IsDuring x t → sum_to (machine_count p) (λ k. (sure p s t).held k w set) ≤ total

-- at an instant what all surely hold is no more than the amount, nor is it with one of them set to an end of its choices
pub record StaysAt (p : Instance) (s : Sets) (w : Weight) (set : Nodes) (amount t : ℕ) : Type 0 where
  pub base : sum_to (machine_count p) (λ k. (sure p s t).held k w set) ≤ amount
  pub each : (v : ℕ) (c : Choice) → v < machine_count p → IsEnd (s (vm v)) c → sum_to (machine_count p) (λ k. (sure p s t).held k w set) + held_at p v w set t c ≤ amount + (sure p s t).held v w set

-- so it is during a period
abbrev pub StaysDuring : Instance → Sets → Weight → Nodes → ℕ → Period → Type 0
StaysDuring p s w set amount x = (t : ℕ) → IsDuring x t → StaysAt p s w set amount t

-- from an instant on and before a later one, which is the one after the horizon at the latest
pub record StaysPast (p : Instance) (s : Sets) (w : Weight) (set : Nodes) (amount from until : ℕ) : Type 0 where
  pub later : from < until
  pub most : until ≤ p.horizon + 1
  pub stays : (t : ℕ) → from ≤ t → t < until → StaysAt p s w set amount t

-- before an instant
abbrev pub StaysBefore : Instance → Sets → Weight → Nodes → ℕ → ℕ → Type 0
StaysBefore p s w set amount until = (t : ℕ) → t < until → StaysAt p s w set amount t

-- up to the horizon
abbrev pub StaysIn : Instance → Sets → Weight → Nodes → ℕ → Type 0
StaysIn p s w set amount = (t : ℕ) → t ≤ p.horizon → StaysAt p s w set amount t

-- whenever it has to be so: always, or at the horizon alone
abbrev pub StaysWhenDue : Instance → Sets → Weight → Nodes → ℕ → Bool → Type 0
StaysWhenDue p s w set amount always = (t : ℕ) → t ≤ p.horizon → IsTrue (always || (t == p.horizon)) → StaysAt p s w set amount t
