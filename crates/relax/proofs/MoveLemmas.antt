-- A machine that runs on a node of a set and is to run: when it has moved out, and until when it keeps what it uses.
use Rattle.relax.proofs.Prelude.{◌≡◌, ◌⊎◌, inl, inr, ℕ, ◌+◌, ◌<◌, ◌≤◌, ◌==◌, Bool, true, false, not, nat_lt, nat_le, cond, Option, Some, None, is_some, List, length, get_or, refl, sym, ap, ◌∙◌, arith, Contains, cases_lt, false≢true, Decides-eqb, nat_tests, Act, action_duration, Allocate, At, Choice, choices, Demand, DomainView, duration_of, goes_in, held_at, held_by, Instance, is_raised, Kind, kind_duration, kind_of, least, Migrate, no_row, node_count, NodeId, Nodes, Nowhere, slices_by, slices_of, stage_at, state_of, To, Use, vm, wanted_state, Weight, weight_of, Idle, Place, Running, least_of_each}
use Rattle.relax.proofs.FloorLemmas.{at-row, moved, run-kind, use-le}
use Rattle.relax.specs.Prelude.{Running as ToRunning}

-- ---- it has moved out

-- at a place outside it moves, if it acts at all
abbrev IsOutKind : Nodes → Place → Option Kind → Type 0
IsOutKind set place o = (o ≡ None) ⊎ ((n : NodeId) × (place ≡ At n) × (set n.0 ≡ false) × (o ≡ Some Migrate))

out-kind : (p : Instance) (v : ℕ) (h : NodeId) (set : Nodes) (place : Place) (s : ℕ) → state_of p v ≡ Running h → wanted_state p v ≡ To ToRunning → set h.0 ≡ true → goes_in (Act place s) set ≡ false → IsOutKind set place (kind_of p (vm v) place)
unfolding kind_of
out-kind p v h set Nowhere s runs wanted there out = rw (wanted, runs) (inl refl)
out-kind p v h set (At n) s runs wanted there out = rw (wanted, runs) (by (nat_lt n.0 (node_count p)) (n.0 == h.0) refl)
  where
    by : (listed same : Bool) → (n.0 == h.0) ≡ same → IsOutKind set (At n) (cond listed (cond same (cond (is_raised p v) (Some Allocate) None) (Some Migrate)) None)
    by false same e = inl refl
    by true false e = inr (n, refl, out, refl)
    by true true e = absurd (false≢true (sym out ∙ ap set ((Decides-eqb n.0 h.0).0 e) ∙ there))

over : (u d e t : ℕ) → e ≤ t → cond (not (nat_le e t)) u 0 + 0 + 0 ≡ 0
over u d e t past = grind (arith, nat_tests)

pub left : (p : Instance) (v : ℕ) (w : Weight) (h : NodeId) (set : Nodes) (t : ℕ) (place : Place) (s : ℕ) → state_of p v ≡ Running h → wanted_state p v ≡ To ToRunning → set h.0 ≡ true → goes_in (Act place s) set ≡ false → s + duration_of p (vm v) Migrate ≤ t → held_at p v w set t (Act place s) ≡ 0
unfolding held_at held_by slices_of slices_by stage_at action_duration kind_duration
left p v w h set t place s runs wanted there out past =
    elim (out-kind p v h set place s runs wanted there out) [
      | inl none ↦ rw none refl
      | inr moves ↦ rw (runs, moves.3, moves.1, there, moves.2) (over (weight_of p v w Use) (weight_of p v w Demand) (s + duration_of p (vm v) Migrate) t past)
    ]

-- where one choice has, the least is nothing
pub left_least : (p : Instance) (v : ℕ) (w : Weight) (h : NodeId) (set : Nodes) (t : ℕ) (place : Place) (s : ℕ) (cs : List Choice) → state_of p v ≡ Running h → wanted_state p v ≡ To ToRunning → set h.0 ≡ true → Contains cs (Act place s) → goes_in (Act place s) set ≡ false → s + duration_of p (vm v) Migrate ≤ t → least (held_at p v w set t) cs ≡ 0
left_least p v w h set t place s cs runs wanted there i out past =
    omega (arith, least_of_each (held_at p v w set t) cs (Act place s) i, left p v w h set t place s runs wanted there out past)

-- ---- it keeps what it uses

unended : (u d s e t : ℕ) (b : Bool) → t < e → u ≤ cond (not (nat_le e t)) u 0 + cond b d 0 + 0
unended u d s e t b early = grind (arith, nat_tests)

-- its migration goes to a node of the set, or has not ended
stays : (p : Instance) (v : ℕ) (w : Weight) (h : NodeId) (set : Nodes) (t : ℕ) (place : Place) (s : ℕ) → state_of p v ≡ Running h → wanted_state p v ≡ To ToRunning → set h.0 ≡ true → is_some (kind_of p (vm v) place) ≡ true → (goes_in (Act place s) set ≡ true) ⊎ (t < s + duration_of p (vm v) Migrate) → weight_of p v w Use ≤ held_at p v w set t (Act place s)
unfolding held_at held_by slices_of slices_by stage_at action_duration kind_duration
stays p v w h set t place s runs wanted there acts still =
    elim (run-kind p v h place runs wanted acts) [
      | inl allocate ↦ rw (runs, allocate, there) (omega arith)
      | inr moves ↦
          elim still [
            | inl goes ↦
                let inside : set moves.0.0 ≡ true = (rw moves.1 at goes) in
                rw (runs, moves.3, moves.1, there, inside)
                (moved (weight_of p v w Use) (weight_of p v w Demand) s (s + duration_of p (vm v) Migrate) t (use-le p v w) (omega arith))
            | inr early ↦
                rw (runs, moves.3, moves.1, there)
                (unended (weight_of p v w Use) (weight_of p v w Demand) s (s + duration_of p (vm v) Migrate) t _ early)
          ]
    ]

idle-stays : (p : Instance) (v : ℕ) (w : Weight) (h : NodeId) (set : Nodes) (t : ℕ) → state_of p v ≡ Running h → set h.0 ≡ true → weight_of p v w Use ≤ held_at p v w set t Idle
unfolding held_at held_by slices_of
idle-stays p v w h set t runs there = rw (runs, there) (omega arith)

pub goes_same : (place : Place) (u s : ℕ) (set : Nodes) → goes_in (Act place u) set ≡ goes_in (Act place s) set
goes_same Nowhere u s set = refl
goes_same (At n) u s set = refl

-- a later start at the place is out no earlier
still-in : (place : Place) (u s d t : ℕ) (set : Nodes) → u ≤ s → ¬ ((goes_in (Act place u) set ≡ false) × (u + d ≤ t)) → (goes_in (Act place s) set ≡ true) ⊎ (t < s + d)
still-in place u s d t set later h = by (goes_in (Act place u) set) refl
  where
    by : (b : Bool) → goes_in (Act place u) set ≡ b → (goes_in (Act place s) set ≡ true) ⊎ (t < s + d)
    by true e = inl (goes_same place s u set ∙ e)
    by false e = elim (cases_lt t (u + d)) [ inl early ↦ inr (omega (arith, early, later)) | inr past ↦ absurd (h (e, past)) ]

-- no choice of the domain holds less than the machine uses
pub all_stay : (p : Instance) (v : ℕ) (w : Weight) (h : NodeId) (set : Nodes) (t : ℕ) (g : DomainView) → state_of p v ≡ Running h → wanted_state p v ≡ To ToRunning → set h.0 ≡ true → ((place : Place) (s : ℕ) → Contains (choices g) (Act place s) → is_some (kind_of p (vm v) place) ≡ true) → ((k : ℕ) → k < length g.rows → ¬ ((goes_in (Act (get_or g.rows k no_row).place (get_or g.rows k no_row).lo) set ≡ false) × ((get_or g.rows k no_row).lo + duration_of p (vm v) Migrate ≤ t))) → (c : Choice) → Contains (choices g) c → weight_of p v w Use ≤ held_at p v w set t c
all_stay p v w h set t g runs wanted there acts still Idle i = idle-stays p v w h set t runs there
all_stay p v w h set t g runs wanted there acts still (Act place s) i =
    let row = at-row g (Act place s) i in
    stays p v w h set t place s runs wanted there (acts place s i) (still-in place (get_or g.rows row.0 no_row).lo s (duration_of p (vm v) Migrate) t set row.3 (rw row.2 at (still row.0 row.1)))
