-- Helping only: laws of legal choices.
use Rattle.std.specs.Prelude.{◌≡◌, ℕ, ◌+◌, ◌<◌, ◌≤◌, List, length, slice_index_or, IsTrue}
use Rattle.catalogue.specs.Prelude.{element_at, element_count, Instance, inventory_of, IsInstance}
use Rattle.cluster.specs.declared.choices.Choice.{Choice}
use Rattle.cluster.specs.declared.choices.Choice.TheVariants.{Idle, Act}
use Rattle.cluster.specs.declared.choices.Place.{Place}
use Rattle.cluster.specs.declared.ids.Element.{Element}
use Rattle.cluster.specs.declared.kinds.Kind.{Kind}
use Rattle.slices.specs.Actions.{action_duration, duration_of, end_of, is_legal}
use Rattle.slices.specs.Plans.{IsPlanOf, parted}

-- every duration is at least 1
abbrev pub DurationsLast : Type 0
DurationsLast = (p : Instance) → IsInstance p → (e : Element) (kind : Kind) → 1 ≤ duration_of p e kind

-- an action ends so long after its start, whenever that is
abbrev pub EndsByDuration : Type 0
EndsByDuration = (p : Instance) (e : Element) (place : Place) (s : ℕ) → end_of p e (Act place s) ≡ s + action_duration p e place

-- the action of a legal choice lasts at least 1, and ends by the horizon
abbrev pub LegalActsLast : Type 0
LegalActsLast =
    (p : Instance) → IsInstance p → (e : Element) (place : Place) (s : ℕ) → IsTrue (is_legal p e (Act place s)) →
    (1 ≤ action_duration p e place) × (s + action_duration p e place ≤ p.horizon)

-- where an action may start, it may start earlier
abbrev pub LegalEarlier : Type 0
LegalEarlier =
    (p : Instance) (e : Element) (place : Place) (u s : ℕ) → u ≤ s → IsTrue (is_legal p e (Act place s)) →
    IsTrue (is_legal p e (Act place u))

-- a list of legal choices, one for each element in order, is a plan
abbrev pub LegalIsPlan : Type 0
LegalIsPlan =
    (p : Instance) (choices : List Choice) → length choices ≡ element_count (inventory_of p) →
    ((x : ℕ) → x < element_count (inventory_of p) → IsTrue (is_legal p (element_at (inventory_of p) x) (slice_index_or choices x Idle))) →
    IsPlanOf p (parted p choices)
