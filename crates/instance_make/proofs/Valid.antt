-- The plan that empties the node of a generated problem is valid.
use Rattle.std.proofs.Common.{map, slice_get, IsTrue}
use Rattle.base.proofs.Public.{◌≡◌, ◌≢◌, ◌⊎◌, ℕ, zero, suc, ◌+◌, ◌*◌, ◌<◌, ◌≤◌, ◌==◌, ◌&&◌, ◌||◌, Bool, true, false, cond, not, List, [], ◌∷◌, ◌++◌, length, nat_le, nat_lt, inl, inr, true≢false, refl, sym, ap, ◌∙◌, subst, arith, ⊎_elim, mul-add, cases_eq, le-leb, leb-true, eqb-true, nat_tests, list_any, ForSome, sum_to-le, sum_to-same}
use Rattle.instance_make.specs.Prelude.{action_duration, Amount, At, capacity_of, Constraint as OfConstraint, Demand, emptied, emptying, EmptyingIsValid, end_of, from, generated, generated_constraints, goes_to, has_node, held_by, Holds, host_of, Image, InRange, is_member, IsFeasible, IsValid, KeepsAt, last_end, leaves, Load, load, machine_total, node_total, Nodes, one, Presence, Rule, set_of, snapshot, snapshot_at, spread_of, Stage, stage_at, stages_at, sum_to, Usable, Use, use_of, vm, vms, Weight, weight_of}
use Rattle.catalogue.specs.declared.constraint.Constraint.{Constraint}
use Rattle.catalogue.specs.declared.constraint.Constraint.TheVariants.{Ban, RunningCapacity}
use Rattle.instance_make.proofs.Counting.{counted, touches, touches_stay, touches_leave, touches_one, touches_ten}
use Rattle.instance_make.proofs.Emptied.{by_test, emptied_low, goes_away, by_last, legal, held_stay, held_leave}
use Rattle.instance_make.proofs.Faultless.{cpu_small, mem_small}
use Rattle.instance_make.proofs.Problem.{use_at, demand_at, node_count_at, machine_count_at, online_at, capacity_at}
use Rattle.instance_make.proofs.Ruling.{has_node-set_of}

-- ---- what is held is little

part : (a x : Bool) (u m : ℕ) → u ≤ m → cond (a && x) u 0 ≤ m * cond a 1 0
part true true u m le = omega arith
part true false u m le = omega arith
part false x u m le = omega arith

one_part : (a x : ℕ) → a ≤ x → a + 0 + 0 ≤ x
one_part a x le = omega arith

two_parts : (a b x y : ℕ) → a ≤ x → b ≤ y → a + b + 0 ≤ x + y
two_parts a b x y first second = omega arith

held_le : (seed v : ℕ) (w : Weight) (set : Nodes) (g : Stage) (m : ℕ) → v < machine_total → weight_of (generated seed) v w Use ≤ m → weight_of (generated seed) v w Demand ≤ m
    → held_by (generated seed) v w set (emptying seed (vm v)) g ≤ m * touches set (emptied seed) v
held_le seed v w set g m lt uses demands = by_test (host_of v == emptied seed)
    (λ here.
    rw (held_leave seed v w set g lt here, touches_leave set (emptied seed) v here, mul-add m (counted set (host_of v)) (counted set (goes_to (emptied seed) v)))
    (two_parts _ _ _ _ (part (set (host_of v)) (not g.ended) _ m uses) (part (set (goes_to (emptied seed) v)) g.started _ m demands)))
    (λ other. rw (held_stay seed v w set g lt other, touches_stay set (emptied seed) v other) (one_part _ _ (part (set (host_of v)) true _ m uses)))

sum_scale : (n m : ℕ) (f : ℕ → ℕ) → sum_to n (λ v. m * f v) ≡ m * sum_to n f
sum_scale zero m f = omega arith
sum_scale (suc n) m f = rw (sum_scale n m f) (sym (mul-add m (sum_to n f) (f n)))

-- what all machines hold on a set
all_held : (seed t : ℕ) (w : Weight) (set : Nodes) (m : ℕ) → ((v : ℕ) → v < machine_total → weight_of (generated seed) v w Use ≤ m) → ((v : ℕ) → v < machine_total → weight_of (generated seed) v w Demand ≤ m)
    → sum_to machine_total (λ v. held_by (generated seed) v w set (emptying seed (vm v)) (stages_at (generated seed) (emptying seed) t (vm v))) ≤ m * sum_to machine_total (touches set (emptied seed))
all_held seed t w set m uses demands =
    rw (← sum_scale machine_total m (touches set (emptied seed)))
    (sum_to-le machine_total (λ v. held_by (generated seed) v w set (emptying seed (vm v)) (stages_at (generated seed) (emptying seed) t (vm v))) (λ v. m * touches set (emptied seed) v)
    (λ v lt. held_le seed v w set _ m lt (uses v lt) (demands v lt)))

load_le : (seed t r m n : ℕ) → ((v : ℕ) → v < machine_total → use_of (generated seed).machines v r ≤ m)
    → load (generated seed) (snapshot_at (generated seed) (emptying seed) t) r (one n) ≤ m * sum_to machine_total (touches (one n) (emptied seed))
unfolding snapshot
load_le seed t r m n uses =
    rw (machine_count_at seed) (all_held seed t (Amount r) (one n) m uses (λ v lt. rw (demand_at seed v r) (uses v lt)))

keeps_load : (seed t n r : ℕ) → n < node_total → r < 2 → load (generated seed) (snapshot_at (generated seed) (emptying seed) t) r (one n) ≤ capacity_of (generated seed) n r
keeps_load seed t n r below small = ⊎_elim
    (λ (is : r ≡ 0). rw is (cpu below))
    (λ (other : r ≢ 0). let is : r ≡ 1 = omega arith in rw is (mem below))
    (cases_eq r 0)
  where
    cpu : n < node_total → load (generated seed) (snapshot_at (generated seed) (emptying seed) t) 0 (one n) ≤ capacity_of (generated seed) n 0
    cpu below =
        let few = touches_one (emptied seed) n (emptied_low seed) below in
        let held = load_le seed t 0 4 n (λ v lt. rw (use_at seed v 0 lt) (cpu_small seed v)) in
        rw (capacity_at seed n 0 below) (omega (arith, few, held))

    mem : n < node_total → load (generated seed) (snapshot_at (generated seed) (emptying seed) t) 1 (one n) ≤ capacity_of (generated seed) n 1
    mem below =
        let few = touches_one (emptied seed) n (emptied_low seed) below in
        let held = load_le seed t 1 8 n (λ v lt. rw (use_at seed v 1 lt) (mem_small seed v)) in
        rw (capacity_at seed n 1 below) (omega (arith, few, held))

-- ---- where a machine holds nothing

differ : (a b : ℕ) → a ≢ b → (a == b) ≡ false
differ a b other = grind (arith, nat_tests)

none_held : (seed v n : ℕ) (w : Weight) (g : Stage) → v < machine_total → host_of v ≢ n → (host_of v ≡ emptied seed → goes_to (emptied seed) v ≢ n)
    → held_by (generated seed) v w (one n) (emptying seed (vm v)) g ≡ 0
none_held seed v n w g lt away elsewhere = by_test (host_of v == emptied seed)
    (λ here. held_leave seed v w (one n) g lt here ∙ rw (differ (host_of v) n away, differ (goes_to (emptied seed) v) n (elsewhere (eqb-true (host_of v) (emptied seed) here))) refl)
    (λ other. held_stay seed v w (one n) g lt other ∙ rw (differ (host_of v) n away) refl)

absent : (seed t v n : ℕ) → v < machine_total → host_of v ≢ n → (host_of v ≡ emptied seed → goes_to (emptied seed) v ≢ n) → (snapshot_at (generated seed) (emptying seed) t).present v (one n) ≡ false
unfolding snapshot
absent seed t v n lt away elsewhere = rw (none_held seed v n Presence _ lt away elsewhere) refl

-- where a machine is
found : (seed t v n : ℕ) → v < machine_total → IsTrue ((snapshot_at (generated seed) (emptying seed) t).present v (one n)) → (host_of v ≡ n) ⊎ ((host_of v ≡ emptied seed) × (goes_to (emptied seed) v ≡ n))
found seed t v n lt present = ⊎_elim
    (λ (same : host_of v ≡ n). inl same)
    (λ (away : host_of v ≢ n). ⊎_elim
    (λ (here : host_of v ≡ emptied seed). ⊎_elim
    (λ (there : goes_to (emptied seed) v ≡ n). inr (here, there))
    (λ (elsewhere : goes_to (emptied seed) v ≢ n). absurd (true≢false (sym present ∙ absent seed t v n lt away (λ _. elsewhere))))
    (cases_eq (goes_to (emptied seed) v) n))
    (λ (other : host_of v ≢ emptied seed). absurd (true≢false (sym present ∙ absent seed t v n lt away (λ here. absurd (other here)))))
    (cases_eq (host_of v) (emptied seed)))
    (cases_eq (host_of v) n)

-- ---- the emptied node is usable as long as it is used

leaving_ends : (seed v : ℕ) → end_of (generated seed) (vm v) (leaves (emptied seed) v) ≡ 0 + action_duration (generated seed) (vm v) (At (record { 0 = goes_to (emptied seed) v }))
unfolding end_of
leaving_ends seed v = refl

ended_at : (seed t v : ℕ) → v < machine_total → (host_of v == emptied seed) ≡ true → last_end seed ≤ t → (stages_at (generated seed) (emptying seed) t (vm v)).ended ≡ true
unfolding stages_at stage_at emptying
ended_at seed t v lt here late = rw here (le-leb _ t (before (leaving_ends seed v) (by_last seed v lt here) late))
  where
    before : {a b last : ℕ} → a ≡ b → a ≤ last → last ≤ t → b ≤ t
    before is first second = omega arith

left_behind : (seed t v : ℕ) (w : Weight) → v < machine_total → last_end seed ≤ t
    → held_by (generated seed) v w (one (emptied seed)) (emptying seed (vm v)) (stages_at (generated seed) (emptying seed) t (vm v)) ≡ 0
left_behind seed t v w lt late = by_test (host_of v == emptied seed)
    (λ here.
    held_leave seed v w (one (emptied seed)) (stages_at (generated seed) (emptying seed) t (vm v)) lt here
    ∙ rw (here, ended_at seed t v lt here late, differ (goes_to (emptied seed) v) (emptied seed) (goes_away (emptied seed) v (emptied_low seed) lt)) refl)
    (λ other. held_stay seed v w (one (emptied seed)) (stages_at (generated seed) (emptying seed) t (vm v)) lt other ∙ rw other refl)

-- where a machine stands at all
stands_nowhere : (seed t v : ℕ) → v < machine_total → last_end seed ≤ t
    → ((snapshot_at (generated seed) (emptying seed) t).present v (one (emptied seed)) || nat_lt 0 ((snapshot_at (generated seed) (emptying seed) t).held v Image (one (emptied seed)))) ≡ false
unfolding snapshot
stands_nowhere seed t v lt late = rw (left_behind seed t v Presence lt late, left_behind seed t v Image lt late) refl

other_usable : (seed t n : ℕ) → n < node_total → (n == emptied seed) ≡ false → (snapshot_at (generated seed) (emptying seed) t).usable n ≡ true
unfolding snapshot emptying
other_usable seed t n lt other = rw (online_at seed n lt, other) refl

emptied_usable : (seed t n : ℕ) → n < node_total → (n == emptied seed) ≡ true → (snapshot_at (generated seed) (emptying seed) t).usable n ≡ not (nat_le (last_end seed) t)
unfolding snapshot emptying stages_at stage_at
emptied_usable seed t n lt here = rw (online_at seed n lt, here) refl

keeps_usable : (seed t v n : ℕ) → v < machine_total → n < node_total
    → IsTrue ((snapshot_at (generated seed) (emptying seed) t).present v (one n) || nat_lt 0 ((snapshot_at (generated seed) (emptying seed) t).held v Image (one n)))
    → IsTrue ((snapshot_at (generated seed) (emptying seed) t).usable n)
keeps_usable seed t v n lt below stands = by_test (n == emptied seed)
    (λ here. by_test (nat_le (last_end seed) t)
    (λ late.
    let same : n ≡ emptied seed = eqb-true n (emptied seed) here in
    absurd (true≢false (sym (rw same at stands) ∙ stands_nowhere seed t v lt (leb-true (last_end seed) t late))))
    (λ early. emptied_usable seed t n below here ∙ ap not early))
    (λ other. other_usable seed t n below other)

-- ---- constraints

member_bounds : (a n v : ℕ) → is_member (vms (from a n)) v ≡ true → (a ≤ v) × (v < a + n)
member_bounds a zero v is = absurd (true≢false (sym is))
member_bounds a (suc n) v is = by_test (a == v)
    (λ here. let same : a ≡ v = eqb-true a v here in (omega arith, omega arith))
    (λ other. let later = member_bounds (a + 1) n v (rest other is) in (omega arith, omega arith))
  where
    rest : (a == v) ≡ false → ((a == v) || is_member (vms (from (a + 1) n)) v) ≡ true → is_member (vms (from (a + 1) n)) v ≡ true
    rest other h = rw other at h

spread_holds : (seed t g : ℕ) → g < 10 → Holds (generated seed) (snapshot_at (generated seed) (emptying seed) t) (spread_of g)
spread_holds seed t g small n v w n_lt v_lt w_lt forbidden present =
    let first = member_bounds (4 * g) 4 v forbidden.0 in
    let second = member_bounds (4 * g) 4 w forbidden.1 in
    let apart : v ≢ w = forbidden.2 in
    let low = emptied_low seed in
    ⊎_elim
    (λ (home : host_of v ≡ n). absent seed t w n (omega arith) (λ same. absurd (apart (omega arith))) (λ here there. absurd (apart (omega arith))))
    (λ (moved : (host_of v ≡ emptied seed) × (goes_to (emptied seed) v ≡ n)). absent seed t w n (omega arith) (λ same. absurd (apart (omega arith))) (λ here there. absurd (apart (omega arith))))
    (found seed t v n (omega arith) present)

ban_holds : (seed t : ℕ) → Holds (generated seed) (snapshot_at (generated seed) (emptying seed) t) (Ban (vms (from 40 10)) (set_of (39 ∷ [])) false)
ban_holds seed t v n v_lt n_lt forbidden =
    let bounds = member_bounds 40 10 v forbidden.0 in
    let last : n ≡ 39 = eqb-true n 39 (alone (n == 39) (sym (has_node-set_of (39 ∷ []) n refl) ∙ forbidden.1)) in
    let low = emptied_low seed in
    absent seed t v n (omega arith) (λ same. omega arith) (λ here there. omega arith)
  where
    alone : (b : Bool) → (b || false) ≡ true → b ≡ true
    alone true h = refl
    alone false h = h

ten_nodes : sum_to 40 (counted (has_node (set_of (from 10 10)))) ≤ 10
ten_nodes = omega (arith, sum_to-same 40 (counted (has_node (set_of (from 10 10)))) (counted (λ n. list_any (λ j. n == j) (from 10 10))) (λ n lt. ap (λ b. cond b 1 0) (has_node-set_of (from 10 10) n refl)), ten)
  where
    ten : sum_to 40 (counted (λ n. list_any (λ j. n == j) (from 10 10))) ≡ 10
    ten = refl

capacity_holds : (seed t : ℕ) → Holds (generated seed) (snapshot_at (generated seed) (emptying seed) t) (RunningCapacity (set_of (from 10 10)) 60 true)
unfolding snapshot
capacity_holds seed t =
    let few = touches_ten (has_node (set_of (from 10 10))) (emptied seed) (emptied_low seed) ten_nodes in
    let held = all_held seed t Presence (has_node (set_of (from 10 10))) 1 (λ v lt. omega arith) (λ v lt. omega arith) in
    rw (machine_count_at seed) (omega (arith, few, held))

-- what holds of each item
AllOf : {A : Type 0} → (A → Type 0) → List A → Type 0
AllOf P [] = Unit {0}
AllOf P (x ∷ xs) = P x × AllOf P xs

for_some : {A : Type 0} (P : A → Type 0) (xs : List A) (i : ℕ) → AllOf P xs → ForSome (slice_get xs i) P
unfolding AllOf
for_some P [] i all = λ x is. absurd (cc)
for_some P (x ∷ xs) zero all = λ y is. let same : x ≡ y = cc in subst P same all.0
for_some P (x ∷ xs) (suc i) all = for_some P xs i all.1

all_spreads : (P : Constraint → Type 0) (n a : ℕ) (rest : List Constraint) → ((g : ℕ) → a ≤ g → g < a + n → P (spread_of g)) → AllOf P rest → AllOf P (map spread_of (from a n) ++ rest)
unfolding AllOf
all_spreads P zero a rest each all = all
all_spreads P (suc n) a rest each all = (each a (omega arith) (omega arith), all_spreads P n (a + 1) rest (λ g low high. each g (omega arith) (omega arith)) all)

all_hold : (seed t : ℕ) → AllOf (Holds (generated seed) (snapshot_at (generated seed) (emptying seed) t)) (generated_constraints (emptied seed))
unfolding AllOf generated_constraints
all_hold seed t =
    let holds = Holds (generated seed) (snapshot_at (generated seed) (emptying seed) t) in
    (tt, (tt, all_spreads holds 10 0 (Ban (vms (from 40 10)) (set_of (39 ∷ [])) false ∷ RunningCapacity (set_of (from 10 10)) 60 true ∷ []) (λ g low high. spread_holds seed t g (omega arith)) (ban_holds seed t, (capacity_holds seed t, tt))))

constraints_at : (seed : ℕ) → (generated seed).constraints ≡ generated_constraints (emptied seed)
unfolding generated
constraints_at seed = refl

two_resources : (seed : ℕ) → length (generated seed).resources ≡ 2
unfolding generated
two_resources seed = refl

-- ---- the whole

keeps : (seed t : ℕ) (r : Rule) → InRange (generated seed) r → KeepsAt (generated seed) (emptying seed) t r
keeps seed t (Load n r) range = keeps_load seed t n.0 r (omega (arith, node_count_at seed, range.0)) (omega (arith, two_resources seed, range.1))
keeps seed t (Usable v n) range = keeps_usable seed t v.0 n.0 (omega (arith, machine_count_at seed, range.0)) (omega (arith, node_count_at seed, range.1))
keeps seed t (OfConstraint c) range =
    let holds = Holds (generated seed) (snapshot_at (generated seed) (emptying seed) t) in
    λ _. for_some holds (generated seed).constraints c (subst (AllOf holds) (sym (constraints_at seed)) (all_hold seed t))

valid : (seed : ℕ) → IsValid (generated seed) (emptying seed)
unfolding IsValid
valid seed t le r range = keeps seed t r range

pub emptying_is_valid : EmptyingIsValid
emptying_is_valid seed = record { legal = legal seed; valid = valid seed }

pub is_feasible : (seed : ℕ) → IsFeasible seed
is_feasible seed none = none (emptying seed) (legal seed) (valid seed)
