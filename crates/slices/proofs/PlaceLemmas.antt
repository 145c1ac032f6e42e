-- The slices of a machine: on nodes of the instance, the source a use, the target a demand, or both an allocation.
use Rattle.std.proofs.Common.{if◌then◌else◌}
use Rattle.base.proofs.Public.{◌≡◌, ◌⊎◌, inl, inr, ℕ, ◌<◌, Bool, true, false, Option, Some, None, refl, ltb-true}
use Rattle.slices.specs.Prelude.{Act, acting_slices, Allocate, Always, At, Boot, Choice, Demand, FromStart, Gone, host_is_online, Idle, idle_slices, Init, Instance, is_place, is_raised, IsInstance, Kill, Kind, kind_of, machine_kind, Migrate, node_count, NodeId, Nowhere, Place, Raise, Resume, Shutdown, Slice, slice, Slices, slices_by, slices_of, State, state_in, state_of, Suspend, Use, wanted_state, What}
use Rattle.cluster.specs.declared.states.State.TheVariants.{Ready, Running, Sleeping}
use Rattle.slices.specs.declared.slice.What.TheVariants.{Image as OfImage}
use Rattle.cluster.proofs.Public.{is_online-lt}
use Rattle.slices.proofs.DurationLemmas.{of_get}

-- the slice, if there is one, is of this sort and on one of so many nodes
abbrev pub IsSliceOf : ℕ → What → Option Slice → Type 0
IsSliceOf nodes what None = Unit {0}
IsSliceOf nodes what (Some s) = (s.node.0 < nodes) × (s.what ≡ what)

pub record ArePlain (nodes : ℕ) (x : Slices) : Type 0 where
  pub source : IsSliceOf nodes Use x.source
  pub target : IsSliceOf nodes Demand x.target
  pub image : IsSliceOf nodes OfImage x.image

abbrev pub allocated : NodeId → Slices
allocated h = record { source = slice h Always Use; target = slice h FromStart Raise; image = None }

abbrev pub AreSlices : ℕ → Slices → Type 0
AreSlices nodes x = ArePlain nodes x ⊎ ((h : NodeId) × (h.0 < nodes) × (x ≡ allocated h))

-- the host of a state, if it has one, is one of so many nodes
abbrev IsHostWithin : ℕ → State → Type 0
IsHostWithin nodes (Running h) = h.0 < nodes
IsHostWithin nodes (Sleeping h) = h.0 < nodes
IsHostWithin nodes state = Unit {0}

abbrev IsPlaceWithin : ℕ → Place → Type 0
IsPlaceWithin nodes Nowhere = Unit {0}
IsPlaceWithin nodes (At n) = n.0 < nodes

idle-slices : (nodes : ℕ) (s : State) → IsHostWithin nodes s → AreSlices nodes (idle_slices s)
idle-slices nodes (Running h) l = inl (record { source = (l, refl); target = tt; image = tt })
idle-slices nodes (Sleeping h) l = inl (record { source = tt; target = tt; image = (l, refl) })
idle-slices nodes s l = inl (record { source = tt; target = tt; image = tt })

acting-slices : (nodes : ℕ) (s : State) (k : Kind) (place : Place) → IsHostWithin nodes s → IsPlaceWithin nodes place → AreSlices nodes (acting_slices s k place)
acting-slices nodes (Running h) Migrate (At n) l b = inl (record { source = (l, refl); target = (b, refl); image = tt })
acting-slices nodes (Running h) Allocate place l b = inr (h, l, refl)
acting-slices nodes (Running h) Shutdown place l b = inl (record { source = (l, refl); target = tt; image = tt })
acting-slices nodes (Running h) Kill place l b = inl (record { source = (l, refl); target = tt; image = tt })
acting-slices nodes (Running h) Suspend place l b = inl (record { source = (l, refl); target = tt; image = (l, refl) })
acting-slices nodes Ready Boot (At n) l b = inl (record { source = tt; target = (b, refl); image = tt })
acting-slices nodes (Sleeping h) Resume (At n) l b = inl (record { source = tt; target = (b, refl); image = (l, refl) })
acting-slices nodes (Sleeping h) Kill place l b = inl (record { source = tt; target = tt; image = (l, refl) })
acting-slices nodes s k place l b = inl (record { source = tt; target = tt; image = tt })

host-within : (p : Instance) (s : State) → host_is_online p.nodes s ≡ true → IsHostWithin (node_count p) s
host-within p Init e = tt
host-within p Ready e = tt
host-within p (Running h) e = is_online-lt p.nodes h.0 e
host-within p (Sleeping h) e = is_online-lt p.nodes h.0 e
host-within p Gone e = tt

state-within : (p : Instance) → IsInstance p → (v : ℕ) → IsHostWithin (node_count p) (state_of p v)
state-within p s v =
    of_get (λ o. IsHostWithin (node_count p) (state_in o)) p.machines v tt
    (λ m l e. host-within p m.state (rw e at (s.inventory.hosts v m l)))

-- a kind is only of a place of the instance
by-slices : (p : Instance) (s : State) (place : Place) (there : Bool) (o : Option Kind) → is_place p place ≡ there → IsHostWithin (node_count p) s → AreSlices (node_count p) (slices_by s place (if there then o else None))
unfolding slices_by
by-slices p s place false o e l = inl (record { source = tt; target = tt; image = tt })
by-slices p s place true None e l = inl (record { source = tt; target = tt; image = tt })
by-slices p s place true (Some k) e l = acting-slices (node_count p) s k place l (within place e)
  where
    within : (place : Place) → is_place p place ≡ true → IsPlaceWithin (node_count p) place
    within Nowhere e = tt
    within (At n) e = ltb-true n.0 (node_count p) e

pub are_slices : (p : Instance) → IsInstance p → (v : ℕ) (c : Choice) → AreSlices (node_count p) (slices_of p v c)
unfolding slices_of kind_of
are_slices p s v Idle = idle-slices (node_count p) (state_of p v) (state-within p s v)
are_slices p s v (Act place start) =
    by-slices p (state_of p v) place (is_place p place) (machine_kind (state_of p v) (wanted_state p v) (is_raised p v) place) refl (state-within p s v)
