-- A machine that runs and is to run on has on all nodes together at least what it uses at present.
use Rattle.base.proofs.Public.{◌≡◌, ◌⊎◌, inl, inr, ℕ, ◌+◌, ◌<◌, ◌≤◌, ◌==◌, and_parts, Bool, true, false, not, nat_lt, nat_le, cond, Contains, Option, Some, None, is_some, refl, arith, false≢true, lt-ltb, ltb-true, nat_tests}
use Rattle.relax.specs.Prelude.{Act, action_duration, all_nodes, Allocate, Amount, AreLegal, At, Choice, held_at, held_by, Image, Instance, is_legal, is_raised, IsElement, kind_of, Migrate, node_count, NodeId, Nowhere, Presence, Sets, slices_by, slices_of, stage_at, state_of, sure, To, Use, vm, wanted_state, Weight, weight_of}
use Rattle.relax.specs.Prelude.{Running as ToRunning}
use Rattle.cluster.specs.declared.{choices.Choice.TheVariants.Idle, choices.Place.Place, kinds.Kind.Kind, states.State.TheVariants.Running}
use Rattle.slices.specs.declared.slice.What.TheVariants.{Demand}
use Rattle.catalogue.proofs.Public.{use_of_le}
use Rattle.quick_checks.proofs.ComingLemmas.{contains_some, least_above}

-- ---- one choice

-- a machine that runs and is to run acts by moving to another node, or by an allocation
abbrev IsRunKind : ℕ → Place → Option Kind → Type 0
IsRunKind count place o = (o ≡ Some Allocate) ⊎ ((n : NodeId) × (place ≡ At n) × (n.0 < count) × (o ≡ Some Migrate))

run-kind : (p : Instance) (v : ℕ) (h : NodeId) (place : Place) → state_of p v ≡ Running h → wanted_state p v ≡ To ToRunning → is_some (kind_of p (vm v) place) ≡ true → IsRunKind (node_count p) place (kind_of p (vm v) place)
unfolding kind_of
run-kind p v h Nowhere s w k = absurd (false≢true (rw (w, s) at k))
run-kind p v h (At n) s w k = rw (w, s) (at (nat_lt n.0 (node_count p)) (n.0 == h.0) (is_raised p v) refl (rw (w, s) at k))
  where
    at : (there same raised : Bool) → nat_lt n.0 (node_count p) ≡ there → is_some (cond there (cond same (cond raised (Some Allocate) None) (Some Migrate)) None) ≡ true → IsRunKind (node_count p) (At n) (cond there (cond same (cond raised (Some Allocate) None) (Some Migrate)) None)
    at true true true e k = inl refl
    at true true false e k = absurd (false≢true k)
    at true false raised e k = inr (n, refl, ltb-true n.0 (node_count p) e, refl)
    at false same raised e k = absurd (false≢true k)

-- a use is no more than a demand
use-le : (p : Instance) (v : ℕ) (w : Weight) → weight_of p v w Use ≤ weight_of p v w Demand
use-le p v (Amount r) = use_of_le p v r
use-le p v Presence = omega arith
use-le p v Image = omega arith

-- and is held somewhere, until an action ends and from its start on
moved : (u d s e t : ℕ) → u ≤ d → s ≤ e → u ≤ cond (not (nat_le e t)) u 0 + cond (nat_le s t) d 0 + 0
moved u d s e t l k = grind (arith, nat_tests)

acts_up : (p : Instance) (v : ℕ) (w : Weight) (h : NodeId) (t : ℕ) (place : Place) (s : ℕ) → state_of p v ≡ Running h → h.0 < node_count p → wanted_state p v ≡ To ToRunning → is_some (kind_of p (vm v) place) ≡ true → weight_of p v w Use ≤ held_at p v w (all_nodes p) t (Act place s)
unfolding held_at held_by slices_of slices_by stage_at
acts_up p v w h t place s state there wanted k =
    elim (run-kind p v h place state wanted k) [
      | inl allocate ↦ rw (state, allocate, lt-ltb h.0 (node_count p) there) (omega arith)
      | inr moves ↦
          rw (state, moves.3, moves.1, lt-ltb h.0 (node_count p) there, lt-ltb moves.0.0 (node_count p) moves.2)
          (moved (weight_of p v w Use) (weight_of p v w Demand) s (s + action_duration p (vm v) (At moves.0)) t (use-le p v w) (omega arith))
    ]

idle_up : (p : Instance) (v : ℕ) (w : Weight) (h : NodeId) (t : ℕ) → state_of p v ≡ Running h → h.0 < node_count p → weight_of p v w Use ≤ held_at p v w (all_nodes p) t Idle
unfolding held_at held_by slices_of
idle_up p v w h t state there = rw (state, lt-ltb h.0 (node_count p) there) (omega arith)

-- ---- all choices

-- one that may stay has that at the least
pub use_there : (p : Instance) (s q : Sets) (v r : ℕ) (h : NodeId) (t : ℕ) → AreLegal p s → q (vm v) ≡ s (vm v) → IsElement p (vm v) → Contains (s (vm v)) Idle → state_of p v ≡ Running h → h.0 < node_count p → wanted_state p v ≡ To ToRunning → weight_of p v (Amount r) Use ≤ (sure p q t).held v (Amount r) (all_nodes p)
unfolding sure is_legal
use_there p s q v r h t legal same there idle runs low wanted =
    rw same (least_above (held_at p v (Amount r) (all_nodes p) t) (weight_of p v (Amount r) Use) (s (vm v)) (contains_some (s (vm v)) Idle idle) each)
  where
    each : (c : Choice) → Contains (s (vm v)) c → weight_of p v (Amount r) Use ≤ held_at p v (Amount r) (all_nodes p) t c
    each Idle i = idle_up p v (Amount r) h t runs low
    each (Act place u) i = acts_up p v (Amount r) h t place u runs low wanted (and_parts _ _ (legal (vm v) there (Act place u) i)).0
