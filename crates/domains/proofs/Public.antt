-- What other crates may cite.

-- which choices are in a list, and in what a filter keeps of it
pub use Rattle.domains.proofs.SplitLemmas.{contains_here, contains_one, contains_filter, filter_contains}
use Rattle.std.proofs.Common.{min}
use Rattle.base.proofs.Public.{◌≡◌, ◌⊎◌, inl, inr, ℕ, ◌≤◌, ◌==◌, ◌&&◌, ◌||◌, nat_lt, not, Bool, true, false, cond, Option, Some, None, ◌+◌, ◌-◌, List, [], ◌∷◌, ◌++◌, length, refl, sym, ap, ◌∙◌, arith, filter, flat_map, Contains, filter-append, Contains-append_cases, Contains-append_left, Contains-append_right, nat_tests, Decides-eqb}
use Rattle.domains.specs.Prelude.{Act, All, AreFewer, Choice, choices, CountFalls, CountFallsBelow, domain_at, DomainView, Element, FilterIsFewer, idle_seen, In, in_part, is_above_none, is_nought, IsIn, IsOneOf, keeping, least, LeastGrows, LeastOfEach, Lens, lost_choices, lower, lowest, LowestBefore, may, MayByLeast, MayEach, MayStays, Node, Only, OpenHasTwo, Out, out_of_part, PartsAreDisjoint, PartsCover, PlanSplits, PlanStays, RegionView, restored, Row, row_choices, rows_under, same_element, seen, SeenByRows, Set, Sets, sets, shows, Sight, sight_at, sight_of, size, SizeFalls, SizeIsPositive, SplitAddsUp, surely, SurelyByLeast, SurelyEach, SurelyStays, Vm, Whole}
use Rattle.cluster.specs.declared.choices.Choice.TheVariants.{Idle}
use Rattle.domains.specs.declared.view.Lens.TheVariants.{Inside, Outside}
use Rattle.domains.proofs.MeasureLemmas.{filter_true, lowest-append}
use Rattle.domains.proofs.SplitLemmas.{contains_none, contains_cases, contains_later, size-split, size-le, size-positive, size-two, count-le, count-lt}
-- what a domain was, is what it has and what it has lost
pub use Rattle.domains.proofs.BeforeLemmas.{restored_is_both, lost_is_restored}

-- a test is true or false
either : (b : Bool) → (b ≡ true) ⊎ (not b ≡ true)
either true = inl refl
either false = inr refl

pub parts_cover : PartsCover
parts_cover part cs c h = by (either (in_part part c))
  where
    by : (in_part part c ≡ true) ⊎ (not (in_part part c) ≡ true) → Contains (filter (in_part part) cs) c ⊎ Contains (filter (out_of_part part) cs) c
    by (inl t) = inl (contains_filter (in_part part) cs c h t)
    by (inr t) = inr (contains_filter (out_of_part part) cs c h t)

pub parts_are_disjoint : PartsAreDisjoint
parts_are_disjoint part cs c inside outside =
    let a : in_part part c ≡ true = (filter_contains (in_part part) cs c inside).1 in
    let b : not (in_part part c) ≡ true = (filter_contains (out_of_part part) cs c outside).1 in
    let f : not true ≡ true = rw a at b in
    cc

-- a plan whose choice of x passes a test is in the region that keeps what passes
plan-keeps : (s : Sets) (plan : Element → Choice) (x : Element) (test : Choice → Bool) → IsIn s plan → ((e : Element) → same_element e x ≡ true → test (plan e) ≡ true) → IsIn (keeping x test s) plan
plan-keeps s plan x test h t e = by (same_element e x) refl
  where
    by : (b : Bool) → same_element e x ≡ b → Contains (cond b (filter test (s e)) (s e)) (plan e)
    by true same = contains_filter test (s e) (plan e) (h e) (t e same)
    by false other = h e

-- elements that pass the test of being the same are equal
pub same_is : (e x : Element) → same_element e x ≡ true → e ≡ x
same_is (Vm v) (Vm w) t = ap (λ (n : ℕ). let e : Element = Vm (record { 0 = n }) in e) ((Decides-eqb v.0 w.0).0 t)
same_is (Vm v) (Node n) t = cc
same_is (Node m) (Vm w) t = cc
same_is (Node m) (Node n) t = ap (λ (k : ℕ). let e : Element = Node (record { 0 = k }) in e) ((Decides-eqb m.0 n.0).0 t)

same_plan : (plan : Element → Choice) (e x : Element) → same_element e x ≡ true → plan e ≡ plan x
same_plan plan e x t = ap plan (same_is e x t)

pub plan_splits : PlanSplits
plan_splits s plan x part h = by (either (in_part part (plan x)))
  where
    by : (in_part part (plan x) ≡ true) ⊎ (not (in_part part (plan x)) ≡ true) → IsIn (keeping x (in_part part) s) plan ⊎ IsIn (keeping x (out_of_part part) s) plan
    by (inl t) = inl (plan-keeps s plan x (in_part part) h (λ e same. ap (in_part part) (same_plan plan e x same) ∙ t))
    by (inr t) = inr (plan-keeps s plan x (out_of_part part) h (λ e same. ap (out_of_part part) (same_plan plan e x same) ∙ t))

pub plan_stays : PlanStays
plan_stays s plan x test h e = by (same_element e x) (h e)
  where
    by : (b : Bool) → Contains (cond b (filter test (s e)) (s e)) (plan e) → Contains (s e) (plan e)
    by true k = (filter_contains test (s e) (plan e) k).0
    by false k = k

pub split_adds_up : SplitAddsUp
split_adds_up machines nodes s x part h = size-split machines nodes s x (in_part part) (out_of_part part) (λ c. refl) h

pub size_falls : SizeFalls
size_falls machines nodes s x test = size-le machines nodes s x test

pub size_is_positive : SizeIsPositive
size_is_positive machines nodes s some = size-positive machines nodes s some

pub open_has_two : OpenHasTwo
open_has_two machines nodes s some unfixed = by (size-two machines nodes s some)
  where
    by : ((x : Element) → IsOneOf machines nodes x → length (s x) ≡ 1) ⊎ (2 ≤ size machines nodes s) → 2 ≤ size machines nodes s
    by (inl fixed) = absurd (unfixed fixed)
    by (inr two) = two

pub count_falls : CountFalls
count_falls machines nodes s x test = count-le machines nodes s x test

pub count_falls_below : CountFallsBelow
count_falls_below machines nodes s x test c l h f = count-lt machines nodes s x test c l h f

-- ---- each choice of a set

lower-le : (a : ℕ) (o : Option ℕ) → lower a o ≤ a
lower-le a None = omega arith
lower-le a (Some b) = omega arith

pub least_of_each : LeastOfEach
least_of_each f [] c h = absurd (contains_none c h)
least_of_each f (x ∷ []) c h = by (contains_cases x [] c h)
  where
    by : (x ≡ c) ⊎ Contains [] c → f x ≤ f c
    by (inl same) = rw same (omega arith)
    by (inr later) = absurd (contains_none c later)
least_of_each f (x ∷ y ∷ ys) c h = by (contains_cases x (y ∷ ys) c h) (λ l. least_of_each f (y ∷ ys) c l)
  where
    by : (x ≡ c) ⊎ Contains (y ∷ ys) c → (Contains (y ∷ ys) c → lower (f y) (lowest f ys) ≤ f c) → min (f x) (lower (f y) (lowest f ys)) ≤ f c
    by (inl same) rest = let e : f x ≡ f c = ap f same in omega arith
    by (inr later) rest = let l = rest later in omega arith

two_of : (a b : Bool) → (a && b) ≡ true → (a ≡ true) × (b ≡ true)
two_of true b e = (refl, e)
two_of false b e = cc

one_of : (a b : Bool) → (a || b) ≡ true → (a ≡ true) ⊎ (b ≡ true)
one_of true b e = inl refl
one_of false b e = inr e

or_first : (a b : Bool) → a ≡ true → (a || b) ≡ true
or_first a b e = rw e refl

or_second : (a b : Bool) → b ≡ true → (a || b) ≡ true
or_second true b e = refl
or_second false b e = e

pub surely_each : SurelyEach
surely_each test [] c h t = absurd (contains_none c h)
surely_each test (x ∷ xs) c h t = by (contains_cases x xs c h) (λ l. surely_each test xs c l (two_of (test x) (surely test xs) t).1)
  where
    by : (x ≡ c) ⊎ Contains xs c → (Contains xs c → test c ≡ true) → test c ≡ true
    by (inl same) rest = rw (← same) (two_of (test x) (surely test xs) t).0
    by (inr later) rest = rest later

pub may_each : MayEach
may_each test [] c h t = absurd (contains_none c h)
may_each test (x ∷ xs) c h t = by (contains_cases x xs c h) (λ l. may_each test xs c l t)
  where
    by : (x ≡ c) ⊎ Contains xs c → (Contains xs c → may test xs ≡ true) → (test x || may test xs) ≡ true
    by (inl same) rest = or_first (test x) (may test xs) (ap test same ∙ t)
    by (inr later) rest = or_second (test x) (may test xs) (rest later)

-- ---- fewer choices

pub filter_is_fewer : FilterIsFewer
filter_is_fewer test cs c h = (filter_contains test cs c h).0

pub surely_stays : SurelyStays
surely_stays test [] cs fewer t = refl
surely_stays test (x ∷ xs) cs fewer t =
    let first : test x ≡ true = surely_each test cs x (fewer x (contains_here x xs)) t in
    rw (first, surely_stays test xs cs (λ c h. fewer c (contains_later x xs c h)) t) refl

pub may_stays : MayStays
may_stays test [] cs fewer t = cc
may_stays test (x ∷ xs) cs fewer t = by (one_of (test x) (may test xs) t) (λ u. may_stays test xs cs (λ c h. fewer c (contains_later x xs c h)) u)
  where
    by : (test x ≡ true) ⊎ (may test xs ≡ true) → (may test xs ≡ true → may test cs ≡ true) → may test cs ≡ true
    by (inl first) rest = may_each test cs x (fewer x (contains_here x xs)) first
    by (inr later) rest = rest later

pub least_grows : LeastGrows
least_grows f [] cs fewer ne = absurd (ne refl)
least_grows f (x ∷ []) cs fewer ne = least_of_each f cs x (fewer x (contains_here x []))
least_grows f (x ∷ y ∷ ys) cs fewer ne =
    let first = least_of_each f cs x (fewer x (contains_here x (y ∷ ys))) in
    let rest = least_grows f (y ∷ ys) cs (λ c h. fewer c (contains_later x (y ∷ ys) c h)) (λ e. cc) in
    omega arith

-- lists of the same choices have the same least value
lowest-same : (f : Choice → ℕ) (xs ys : List Choice) → AreFewer xs ys → AreFewer ys xs → lowest f xs ≡ lowest f ys
lowest-same f [] [] there back = refl
lowest-same f [] (y ∷ ys) there back = absurd (contains_none y (back y (contains_here y ys)))
lowest-same f (x ∷ xs) [] there back = absurd (contains_none x (there x (contains_here x xs)))
lowest-same f (x ∷ xs) (y ∷ ys) there back =
    let up : least f (y ∷ ys) ≤ least f (x ∷ xs) = least_grows f (x ∷ xs) (y ∷ ys) there (λ e. cc) in
    let down : least f (x ∷ xs) ≤ least f (y ∷ ys) = least_grows f (y ∷ ys) (x ∷ xs) back (λ e. cc) in
    let same : least f (x ∷ xs) ≡ least f (y ∷ ys) = omega arith in
    ap Some same

pub lowest_before : LowestBefore
lowest_before f lost d fewer =
    lowest-same f (choices (restored lost d)) (choices d ++ lost_choices lost)
    (λ c h. elim (restored_is_both lost d c h) [ inl has ↦ Contains-append_left (choices d) (lost_choices lost) c has | inr gone ↦ Contains-append_right (choices d) (lost_choices lost) c gone ])
    (λ c h. elim (Contains-append_cases (choices d) (lost_choices lost) c h) [ inl has ↦ fewer c has | inr gone ↦ lost_is_restored lost d c gone ])
    ∙ lowest-append f (choices d) (lost_choices lost)

-- ---- by the least of a measure

pub surely_by_least : SurelyByLeast
surely_by_least test [] = refl
surely_by_least test (c ∷ cs) = rw (surely_by_least test cs) (step (test c) (lowest (λ d. cond (test d) 1 0) cs))
  where
    step : (b : Bool) (o : Option ℕ) → (b && is_above_none o) ≡ nat_lt 0 (lower (cond b 1 0) o)
    step true None = refl
    step false None = refl
    step true (Some n) = grind (arith, nat_tests)
    step false (Some n) = grind (arith, nat_tests)

pub may_by_least : MayByLeast
may_by_least test [] = refl
may_by_least test (c ∷ cs) = rw (may_by_least test cs) (step (test c) (lowest (λ d. cond (test d) 0 1) cs))
  where
    step : (b : Bool) (o : Option ℕ) → (b || is_nought o) ≡ (lower (cond b 0 1) o == 0)
    step true None = refl
    step false None = refl
    step true (Some n) = grind (arith, nat_tests)
    step false (Some n) = grind (arith, nat_tests)

-- ---- what is seen, row by row

filter-flat_map : (test : Choice → Bool) (rows : List Row) → filter test (flat_map row_choices rows) ≡ flat_map (λ r. filter test (row_choices r)) rows
filter-flat_map test [] = refl
filter-flat_map test (r ∷ rs) = filter-append test (row_choices r) (flat_map row_choices rs) ∙ ap (λ cs. filter test (row_choices r) ++ cs) (filter-flat_map test rs)

filter-idle : (test : Choice → Bool) (idle : Bool) (cs : List Choice) → filter test (cond idle (Idle ∷ []) [] ++ cs) ≡ cond (idle && test Idle) (Idle ∷ []) [] ++ filter test cs
filter-idle test false cs = refl
filter-idle test true cs = by (test Idle)
  where
    by : (b : Bool) → cond b (Idle ∷ filter test cs) (filter test cs) ≡ cond b (Idle ∷ []) [] ++ filter test cs
    by true = refl
    by false = refl

-- what is seen of a domain's choices
by_rows : (s : Sight) (d : DomainView) → sight_of s (choices d) ≡ cond (idle_seen s d) (Idle ∷ []) [] ++ flat_map (λ r. filter (shows s) (row_choices r)) (rows_under s d)
by_rows All d = ap (λ cs. cond d.idle (Idle ∷ []) [] ++ cs) (sym (filter_true (flat_map row_choices d.rows)) ∙ filter-flat_map (λ c. true) d.rows)
by_rows (In part) d = filter-idle (in_part part) d.idle (flat_map row_choices d.rows) ∙ ap (λ cs. cond (d.idle && in_part part Idle) (Idle ∷ []) [] ++ cs) (filter-flat_map (in_part part) d.rows)
by_rows (Out part) d = filter-idle (out_of_part part) d.idle (flat_map row_choices d.rows) ∙ ap (λ cs. cond (d.idle && out_of_part part Idle) (Idle ∷ []) [] ++ cs) (filter-flat_map (out_of_part part) d.rows)
by_rows (Only Idle) d = refl
by_rows (Only (Act place start)) d = let one : start + 1 - start ≡ 1 = omega arith in rw one refl

-- what a lens shows is what is seen at each element
seen-sight : (g : RegionView) (lens : Lens) (e : Element) → seen g lens e ≡ sight_of (sight_at lens e) (sets g e)
seen-sight g Whole e = refl
seen-sight g (Inside x part) e = by (same_element e x)
  where
    by : (b : Bool) → cond b (filter (in_part part) (sets g e)) (sets g e) ≡ sight_of (cond b (In part) All) (sets g e)
    by true = refl
    by false = refl
seen-sight g (Outside x part) e = by (same_element e x)
  where
    by : (b : Bool) → cond b (filter (out_of_part part) (sets g e)) (sets g e) ≡ sight_of (cond b (Out part) All) (sets g e)
    by true = refl
    by false = refl
seen-sight g (Set x c) e = by (same_element e x)
  where
    by : (b : Bool) → cond b (c ∷ []) (sets g e) ≡ sight_of (cond b (Only c) All) (sets g e)
    by true = refl
    by false = refl

pub seen_by_rows : SeenByRows
seen_by_rows g lens e = seen-sight g lens e ∙ by_rows (sight_at lens e) (domain_at g e)
