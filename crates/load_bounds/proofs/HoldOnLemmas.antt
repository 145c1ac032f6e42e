-- Machines that never have less than at present, and what all use beside that.
use Rattle.load_bounds.proofs.Prelude.{◌≡◌, ◌≢◌, inl, inr, ◌⊎◌, ℕ, zero, suc, ◌+◌, ◌-◌, ◌<◌, ◌≤◌, Bool, true, false, not, nat_le, cond, List, [], ◌∷◌, length, refl, sym, ap, subst, arith, get_or_default, slice_index_or, Contains, flat_map, sum_by, cases_eq, lt-ltb, nat_tests, Place, least_of_each, sum_by-cons, sum_but_for, Act, Amount, AreMovers, At, base, Choice, choices, DomainView, Idle, Instance, load, machine_count, node_count, no_row, NodeId, Nowhere, Row, row_choices, Sets, starts_from, state_of, sum_to, vm}
use Rattle.std.proofs.lemmas.List.Elements.{Contains-append_cases}
use Rattle.catalogue.proofs.Public.{use_of_le}
use Rattle.load_bounds.specs.Prelude.{action_duration, all_nodes, demand_of, Gone, GoesOn, held_at, held_by, HoldsOn, Init, Ready, Running, Sleeping, slices_by, slices_of, stage_at, StayersHoldOn, sure, use_of}
use Rattle.load_bounds.proofs.HeldLemmas.{cases_in, least_above}
use Rattle.load_bounds.proofs.TotalLemmas.{held-idle}

-- ---- where a choice of a domain acts

abbrev place-of : Choice → Place
place-of Idle = Nowhere
place-of (Act place s) = place

starts-at : (place q : Place) (from count s : ℕ) → Contains (starts_from place from count) (Act q s) → place ≡ q
starts-at place q from zero s h = absurd (omega (arith, h.1))
starts-at place q from (suc count) s h =
    elim (cases_in (Act place from) (Act q s) (starts_from place (from + 1) count) h) [
      | inl same ↦ ap place-of same
      | inr rest ↦ starts-at place q (from + 1) count s rest
    ]

rows-at : (rows : List Row) (q : Place) (s : ℕ) → Contains (flat_map row_choices rows) (Act q s) → (k : ℕ) × (k < length rows) × ((slice_index_or rows k no_row).place ≡ q)
rows-at [] q s h = absurd (omega (arith, h.1))
rows-at (r ∷ rs) q s h =
    elim (Contains-append_cases (row_choices r) (flat_map row_choices rs) (Act q s) h) [
      | inl here ↦ (0, omega arith, starts-at r.place q r.lo (r.hi + 1 - r.lo) s here)
      | inr rest ↦ let there = rows-at rs q s rest in (suc there.0, omega (arith, there.1), there.2)
    ]

starts-act : (place : Place) (from count : ℕ) → Contains (starts_from place from count) Idle → ⊥
starts-act place from zero h = omega (arith, h.1)
starts-act place from (suc count) h =
    elim (cases_in (Act place from) Idle (starts_from place (from + 1) count) h) [ inl same ↦ cc | inr rest ↦ starts-act place (from + 1) count rest ]

no-idle : (rows : List Row) → Contains (flat_map row_choices rows) Idle → ⊥
no-idle [] h = omega (arith, h.1)
no-idle (r ∷ rs) h =
    elim (Contains-append_cases (row_choices r) (flat_map row_choices rs) Idle h) [ inl here ↦ starts-act r.place r.lo (r.hi + 1 - r.lo) here | inr rest ↦ no-idle rs rest ]

acts-at : (d : DomainView) (q : Place) (s : ℕ) → Contains (choices d) (Act q s) → (k : ℕ) × (k < length d.rows) × ((slice_index_or d.rows k no_row).place ≡ q)
acts-at d q s h =
    elim (Contains-append_cases (cond d.idle (Idle ∷ []) []) (flat_map row_choices d.rows) (Act q s) h) [
      | inl idle ↦ absurd (no-act d.idle idle)
      | inr rows ↦ rows-at d.rows q s rows
    ]
  where
    no-act : (b : Bool) → Contains (cond b (Idle ∷ []) []) (Act q s) → ⊥
    no-act true i = elim (cases_in Idle (Act q s) [] i) [ inl same ↦ cc | inr none ↦ omega (arith, none.1) ]
    no-act false i = omega (arith, i.1)

-- ---- one machine

-- what it has is there until its action ends, and what it brings from the start on
moves-up : (u d s e t : ℕ) → u ≤ d → s ≤ e → u ≤ cond (not (nat_le e t)) u 0 + cond (nat_le s t) d 0 + 0
moves-up u d s e t l k = grind (arith, nat_tests)

act-holds : (p : Instance) (v r : ℕ) (h : NodeId) (t : ℕ) (q : Place) (s : ℕ) → state_of p v ≡ Running h → h.0 < node_count p → GoesOn p v q → base p v (Amount r) ≤ held_at p v (Amount r) (all_nodes p) t (Act q s)
unfolding held_at held_by slices_of slices_by stage_at
act-holds p v r h t q s state there goes =
    elim goes.kind [
      | inr allocate ↦ rw (state, allocate, lt-ltb h.0 (node_count p) there) (omega arith)
      | inl moves ↦
          rw (state, moves, goes.node.2, lt-ltb h.0 (node_count p) there, lt-ltb goes.node.0.0 (node_count p) goes.node.1)
          (moves-up (use_of p.machines v r) (demand_of p v r) s (s + action_duration p (vm v) (At goes.node.0)) t (use_of_le p v r) (omega arith))
    ]

idle-holds : (p : Instance) (v r : ℕ) (h : NodeId) (t : ℕ) → state_of p v ≡ Running h → h.0 < node_count p → base p v (Amount r) ≤ held_at p v (Amount r) (all_nodes p) t Idle
unfolding held_at held_by slices_of
idle-holds p v r h t state there = rw (state, lt-ltb h.0 (node_count p) there) (omega arith)

-- one that runs, and acts by moves and allocations alone
pub running_holds : (p : Instance) (s : Sets) (v : ℕ) (h : NodeId) (d : DomainView) (rows : List Row) → s (vm v) ≡ choices d → rows ≡ d.rows → state_of p v ≡ Running h → h.0 < node_count p → ((k : ℕ) → k < length rows → GoesOn p v (slice_index_or rows k no_row).place) → HoldsOn p s v
running_holds p s v h d rows seen same state there goes = record { each = λ r t c i. at r t c (subst (λ cs. Contains cs c) seen i) }
  where
    at : (r t : ℕ) (c : Choice) → Contains (choices d) c → base p v (Amount r) ≤ held_at p v (Amount r) (all_nodes p) t c
    at r t Idle i = idle-holds p v r h t state there
    at r t (Act q u) i =
        let row = acts-at d q u i in
        let on = subst (λ (rs : List Row). (slice_index_or rs row.0 no_row).place ≡ q) (sym same) row.2 in
        act-holds p v r h t q u state there (subst (λ place. GoesOn p v place) on (goes row.0 (subst (λ (rs : List Row). row.0 < length rs) (sym same) row.1)))

-- none stays whose domain says so
pub no_idle : (p : Instance) (s : Sets) (v : ℕ) (d : DomainView) → s (vm v) ≡ choices d → d.idle ≡ false → Contains (s (vm v)) Idle → HoldsOn p s v
no_idle p s v d seen off i = absurd (at (rw (seen, off) at i))
  where
    at : Contains (flat_map row_choices d.rows) Idle → ⊥
    at h = no-idle d.rows h

-- one that has nothing
nothing-holds : (p : Instance) (s : Sets) (v : ℕ) → ((r : ℕ) → base p v (Amount r) ≡ 0) → HoldsOn p s v
nothing-holds p s v none = record { each = λ r t c i. omega (arith, none r) }

pub init_holds : (p : Instance) (s : Sets) (v : ℕ) → state_of p v ≡ Init → HoldsOn p s v
init_holds p s v state = nothing-holds p s v (λ r. rw state refl)

pub ready_holds : (p : Instance) (s : Sets) (v : ℕ) → state_of p v ≡ Ready → HoldsOn p s v
ready_holds p s v state = nothing-holds p s v (λ r. rw state refl)

pub gone_holds : (p : Instance) (s : Sets) (v : ℕ) → state_of p v ≡ Gone → HoldsOn p s v
gone_holds p s v state = nothing-holds p s v (λ r. rw state refl)

pub sleeping_holds : (p : Instance) (s : Sets) (v : ℕ) (h : NodeId) → state_of p v ≡ Sleeping h → HoldsOn p s v
sleeping_holds p s v h state = nothing-holds p s v (λ r. rw state refl)

-- over the first rows, and one more
pub goes_more : (p : Instance) (v : ℕ) (rows : List Row) (i : ℕ) (d : Row) → i < length rows → ((k : ℕ) → k < i → GoesOn p v (slice_index_or rows k no_row).place) → GoesOn p v (slice_index_or rows i d).place → (k : ℕ) → k < i + 1 → GoesOn p v (slice_index_or rows k no_row).place
goes_more p v rows i d low before here k l =
    elim (cases_eq k i) [
      | inl same ↦ rw same (subst (λ (r : Row). GoesOn p v r.place) (get_or_default rows i d no_row low) here)
      | inr other ↦ before k (omega (arith, l, other))
    ]

-- over the first machines, and one more
pub hold_more : (p : Instance) (s : Sets) (i : ℕ) → ((v : ℕ) → v < i → Contains (s (vm v)) Idle → HoldsOn p s v) → (Contains (s (vm i)) Idle → HoldsOn p s i) → (v : ℕ) → v < i + 1 → Contains (s (vm v)) Idle → HoldsOn p s v
hold_more p s i before here v l =
    elim (cases_eq v i) [
      | inl same ↦ rw same here
      | inr other ↦ before v (omega (arith, l, other))
    ]

-- ---- all machines

at-head : (x v : ℕ) (xs : List ℕ) → v ≡ x → Contains (x ∷ xs) v
at-head x v xs is = (0, omega arith, sym is)

in-tail : (x v : ℕ) (xs : List ℕ) → Contains xs v → Contains (x ∷ xs) v
in-tail x v xs h = (suc h.0, omega (arith, h.1), h.2)

head-or-tail : (x v : ℕ) (xs : List ℕ) → Contains (x ∷ xs) v → (x ≡ v) ⊎ Contains xs v
head-or-tail x v xs (zero, h, e) = inl e
head-or-tail x v xs (suc k, h, e) = inr (k, omega (arith, h), e)

-- one that may stay as it is and never has less surely uses just what it has
stays-base : (p : Instance) (s now : Sets) (v r t : ℕ) → Contains (s (vm v)) Idle → HoldsOn p s v → now (vm v) ≡ s (vm v) → (sure p now t).held v (Amount r) (all_nodes p) ≡ base p v (Amount r)
unfolding sure
stays-base p s now v r t idle holds same =
    let most = least_of_each (held_at p v (Amount r) (all_nodes p) t) (s (vm v)) Idle idle in
    let few = least_above (held_at p v (Amount r) (all_nodes p) t) (base p v (Amount r)) (s (vm v)) Idle idle (λ c i. holds.each r t c i) in
    rw same (omega (arith, most, few, held-idle p v r (all_nodes p) t))

module _ (p : Instance) (s now : Sets) (r t : ℕ) (xs : List ℕ) (are : AreMovers p s xs) (hold : StayersHoldOn p s) where
  abbrev held : ℕ → ℕ
  held v = (sure p now t).held v (Amount r) (all_nodes p)

  abbrev had : ℕ → ℕ
  had v = base p v (Amount r)

  other-stays : (v : ℕ) → v < machine_count p → ¬ Contains xs v → now (vm v) ≡ s (vm v) → held v ≡ had v
  other-stays v low out same = let idle = are.others v low out in stays-base p s now v r t idle (hold.each v low idle) same

  -- all machines use what they have, but for those of the list
  pub all_beside : (more less : ℕ) → ((v : ℕ) → v < machine_count p → ¬ Contains xs v → now (vm v) ≡ s (vm v)) → more ≡ sum_by (λ v. held v - had v) xs → less ≡ sum_by (λ v. had v - held v) xs →
      load p (sure p now t) r (all_nodes p) + less ≡ sum_to (machine_count p) (λ v. base p v (Amount r)) + more
  all_beside more less same up down =
      omega (arith, sum_but_for (machine_count p) held had xs are.machines.once are.machines.each (λ v low out. other-stays v low out (same v low out)), up, down)

  -- and for one that is not there
  pub all_beside_one : (x more less one_more one_less : ℕ) → x < machine_count p → ¬ Contains xs x → ((v : ℕ) → v ≢ x → now (vm v) ≡ s (vm v)) → more ≡ sum_by (λ v. held v - had v) xs → less ≡ sum_by (λ v. had v - held v) xs → one_more ≡ held x - had x → one_less ≡ had x - held x →
      load p (sure p now t) r (all_nodes p) + (less + one_less) ≡ sum_to (machine_count p) (λ v. base p v (Amount r)) + (more + one_more)
  all_beside_one x more less one_more one_less low out same up down one_up one_down =
      omega (arith, sum_but_for (machine_count p) held had (x ∷ xs) (out, are.machines.once) below others, sum_by-cons (λ v. held v - had v) x xs, sum_by-cons (λ v. had v - held v) x xs, up, down, one_up, one_down)
    where
      below : (v : ℕ) → Contains (x ∷ xs) v → v < machine_count p
      below v h = elim (head-or-tail x v xs h) [ inl is ↦ omega (arith, low, is) | inr there ↦ are.machines.each v there ]

      others : (v : ℕ) → v < machine_count p → ¬ Contains (x ∷ xs) v → held v ≡ had v
      others v l none = other-stays v l (λ h. none (in-tail x v xs h)) (same v (λ is. none (at-head x v xs is)))
