-- The least that a machine holds on all nodes, where it runs and is to run: what it uses at present.
use Rattle.relax.proofs.Prelude.{◌≡◌, ◌≢◌, ◌⊎◌, inl, inr, ℕ, zero, suc, ◌+◌, ◌-◌, ◌<◌, ◌≤◌, ◌==◌, max, Bool, true, false, not, nat_lt, nat_le, cond, Option, Some, None, is_some, List, [], ◌∷◌, length, get_or, subst, refl, sym, ap, ◌∙◌, arith, All, Contains, flat_map, cases_eq, false≢true, lt-ltb, ltb-true, nat_tests, All-append, All-contains, All-nil, get_or_default, slice_get_cases, Act, action_duration, all_nodes, Allocate, Amount, At, Choice, choices, Climbs, Demand, DomainView, Gone, held_at, held_by, host_is_online, Image, Instance, is_raised, IsInstance, Kind, kind_of, lowest, Migrate, no_row, node_count, NodeId, Nowhere, place_index, Presence, Row, row_choices, slices_by, slices_of, stage_at, starts_from, state_in, state_of, To, Use, vm, wanted_state, Weight, weight_of, Idle, Place, Running, is_online-lt, use_of_le}
use Rattle.relax.specs.Prelude.{Running as ToRunning}

-- ---- one choice

-- a machine that runs and is to run acts by moving to another node, or by an allocation
abbrev pub IsRunKind : ℕ → Place → Option Kind → Type 0
IsRunKind count place o = (o ≡ Some Allocate) ⊎ ((n : NodeId) × (place ≡ At n) × (n.0 < count) × (o ≡ Some Migrate))

pub run-kind : (p : Instance) (v : ℕ) (h : NodeId) (place : Place) → state_of p v ≡ Running h → wanted_state p v ≡ To ToRunning → is_some (kind_of p (vm v) place) ≡ true → IsRunKind (node_count p) place (kind_of p (vm v) place)
unfolding kind_of
run-kind p v h Nowhere s w k = absurd (false≢true (rw (w, s) at k))
run-kind p v h (At n) s w k = rw (w, s) (at (nat_lt n.0 (node_count p)) (n.0 == h.0) (is_raised p v) refl (rw (w, s) at k))
  where
    at : (there same raised : Bool) → nat_lt n.0 (node_count p) ≡ there → is_some (cond there (cond same (cond raised (Some Allocate) None) (Some Migrate)) None) ≡ true → IsRunKind (node_count p) (At n) (cond there (cond same (cond raised (Some Allocate) None) (Some Migrate)) None)
    at true true true e k = inl refl
    at true true false e k = absurd (false≢true k)
    at true false raised e k = inr (n, refl, ltb-true n.0 (node_count p) e, refl)
    at false same raised e k = absurd (false≢true k)

-- a use is no more than a demand
pub use-le : (p : Instance) (v : ℕ) (w : Weight) → weight_of p v w Use ≤ weight_of p v w Demand
use-le p v (Amount r) = use_of_le p v r
use-le p v Presence = omega arith
use-le p v Image = omega arith

-- and is held somewhere, until an action ends and from its start on
pub moved : (u d s e t : ℕ) → u ≤ d → s ≤ e → u ≤ cond (not (nat_le e t)) u 0 + cond (nat_le s t) d 0 + 0
moved u d s e t l k = grind (arith, nat_tests)

pub acts_up : (p : Instance) (v : ℕ) (w : Weight) (h : NodeId) (t : ℕ) (place : Place) (s : ℕ) → state_of p v ≡ Running h → h.0 < node_count p → wanted_state p v ≡ To ToRunning → is_some (kind_of p (vm v) place) ≡ true → weight_of p v w Use ≤ held_at p v w (all_nodes p) t (Act place s)
unfolding held_at held_by slices_of slices_by stage_at
acts_up p v w h t place s state there wanted k =
    elim (run-kind p v h place state wanted k) [
      | inl allocate ↦ rw (state, allocate, lt-ltb h.0 (node_count p) there) (omega arith)
      | inr moves ↦
          rw (state, moves.3, moves.1, lt-ltb h.0 (node_count p) there, lt-ltb moves.0.0 (node_count p) moves.2)
          (moved (weight_of p v w Use) (weight_of p v w Demand) s (s + action_duration p (vm v) (At moves.0)) t (use-le p v w) (omega arith))
    ]

pub idle_up : (p : Instance) (v : ℕ) (w : Weight) (h : NodeId) (t : ℕ) → state_of p v ≡ Running h → h.0 < node_count p → weight_of p v w Use ≤ held_at p v w (all_nodes p) t Idle
unfolding held_at held_by slices_of
idle_up p v w h t state there = rw (state, lt-ltb h.0 (node_count p) there) (omega arith)

-- a machine that runs and is to run may go to each other node
node-acts : (p : Instance) (v : ℕ) (h n : NodeId) → state_of p v ≡ Running h → wanted_state p v ≡ To ToRunning → n.0 < node_count p → n.0 ≢ h.0 → is_some (kind_of p (vm v) (At n)) ≡ true
unfolding kind_of
node-acts p v h n s w l other = let differ : (n.0 == h.0) ≡ false = grind (arith, nat_tests) in rw (w, s, lt-ltb n.0 (node_count p) l, differ) refl

-- ---- each place of its rows

climbs-low : (from : ℕ) (rows : List Row) (k : ℕ) (d : Row) → Climbs from rows → k < length rows → from + k ≤ place_index (get_or rows k d).place
climbs-low from [] k d c l = absurd (omega arith)
climbs-low from (r ∷ rs) zero d c l = omega (arith, c.0)
climbs-low from (r ∷ rs) (suc k) d c l = let rest = climbs-low (place_index r.place + 1) rs k d c.2 (omega arith) in omega (arith, c.0, rest)

climbs-first : (rows : List Row) (a : Row) (k : ℕ) (d : Row) → Climbs 0 rows → k < length rows → place_index (get_or rows 0 a).place + k ≤ place_index (get_or rows k d).place
climbs-first [] a k d c l = absurd (omega arith)
climbs-first (r ∷ rs) a k d c l = climbs-low (place_index r.place) (r ∷ rs) k d (omega arith, c.1, c.2) l

climbs-high : (from : ℕ) (rows : List Row) (k m : ℕ) (d e : Row) → Climbs from rows → k < length rows → m + 1 ≡ length rows → place_index (get_or rows k d).place + (m - k) ≤ place_index (get_or rows m e).place
climbs-high from [] k m d e c l i = absurd (omega arith)
climbs-high from (r ∷ rs) zero zero d e c l i = omega arith
climbs-high from (r ∷ rs) zero (suc m) d e c l i = let rest = climbs-low (place_index r.place + 1) rs m e c.2 (omega arith) in omega (arith, rest)
climbs-high from (r ∷ rs) (suc k) zero d e c l i = absurd (omega arith)
climbs-high from (r ∷ rs) (suc k) (suc m) d e c l i = let rest = climbs-high (place_index r.place + 1) rs k m d e c.2 (omega arith) (omega arith) in omega (arith, rest)

-- the row at a node stands no later than the node's number says, and no earlier than there are nodes without a row
pub not_there : (rows : List Row) (count n k : ℕ) (a b d : Row) → Climbs 0 rows → 0 < place_index (get_or rows 0 a).place → place_index (get_or rows (length rows - 1) b).place ≤ count → k < length rows → (k < (length rows + n) - count) ⊎ (n < k) → place_index (get_or rows k d).place ≢ n + 1
not_there rows count n k a b d c low high l out =
    let first = climbs-first rows a k d c l in
    let last = climbs-high 0 rows k (length rows - 1) d b c l (omega arith) in
    elim out [ inl early ↦ omega (arith, first, last) | inr late ↦ omega (arith, first, last) ]

-- ---- all choices of the rows

starts-all : (P : Choice → Type 0) (place : Place) (from count : ℕ) → ((s : ℕ) → from ≤ s → P (Act place s)) → All P (starts_from place from count)
starts-all P place from zero h k d l = absurd (omega arith)
starts-all P place from (suc count) h zero d l = h from (omega arith)
starts-all P place from (suc count) h (suc k) d l = starts-all P place (from + 1) count (λ s u. h s (omega (arith, u))) k d (omega arith)

rows-all : (P : Choice → Type 0) (rows : List Row) → ((k : ℕ) (d : Row) → k < length rows → (s : ℕ) → (get_or rows k d).lo ≤ s → P (Act (get_or rows k d).place s)) → All P (flat_map row_choices rows)
rows-all P [] h = All-nil P
rows-all P (r ∷ rs) h =
    All-append P (row_choices r) (flat_map row_choices rs) (starts-all P r.place r.lo (r.hi + 1 - r.lo) (h 0 r (omega arith))) (rows-all P rs (λ k d l. h (suc k) d (omega arith)))

-- a choice that acts is at the place of a row, no earlier than its first start
abbrev pub IsAtRow : List Row → Choice → Type 0
IsAtRow rows Idle = Unit {0}
IsAtRow rows (Act place s) = (k : ℕ) × (k < length rows) × ((get_or rows k no_row).place ≡ place) × ((get_or rows k no_row).lo ≤ s)

pub at-row : (g : DomainView) (c : Choice) → Contains (choices g) c → IsAtRow g.rows c
at-row g c i =
    All-contains (IsAtRow g.rows) (choices g) c (All-append (IsAtRow g.rows) (cond g.idle (Idle ∷ []) []) (flat_map row_choices g.rows) (idle g.idle) (rows-all (IsAtRow g.rows) g.rows (λ k d l s u. (k, l, ap (λ (r : Row). r.place) (get_or_default g.rows k no_row d l), low k d l s u)))) i
  where
    low : (k : ℕ) (d : Row) → k < length g.rows → (s : ℕ) → (get_or g.rows k d).lo ≤ s → (get_or g.rows k no_row).lo ≤ s
    low k d l s u = let same : (get_or g.rows k no_row).lo ≡ (get_or g.rows k d).lo = ap (λ (r : Row). r.lo) (get_or_default g.rows k no_row d l) in omega (arith, u)

    idle : (b : Bool) → All (IsAtRow g.rows) (cond b (Idle ∷ []) [])
    idle true zero d l = tt
    idle true (suc k) d l = absurd (omega arith)
    idle false k d l = absurd (omega arith)

-- where the first row is at a node, the last at a node of the problem, and there is no row at the host unless the machine may act there,
-- it acts at each place
pub place_acts : (p : Instance) (v : ℕ) (h : NodeId) (g : DomainView) (m : ℕ) (a b : Row) → state_of p v ≡ Running h → wanted_state p v ≡ To ToRunning → Climbs 0 g.rows → m + 1 ≡ length g.rows → 0 < place_index (get_or g.rows 0 a).place → place_index (get_or g.rows m b).place ≤ node_count p → (is_some (kind_of p (vm v) (At h)) ≡ true) ⊎ ((k : ℕ) (d : Row) → k < length g.rows → place_index (get_or g.rows k d).place ≢ h.0 + 1) → (place : Place) (s : ℕ) → Contains (choices g) (Act place s) → is_some (kind_of p (vm v) place) ≡ true
place_acts p v h g m a b runs w c i low high stays place s there = at place there (row.2)
  where
    row : IsAtRow g.rows (Act place s)
    row = at-row g (Act place s) there

    first : place_index (get_or g.rows 0 a).place ≤ place_index (get_or g.rows row.0 no_row).place
    first = omega (arith, climbs-first g.rows a row.0 no_row c row.1)

    last : place_index (get_or g.rows row.0 no_row).place ≤ node_count p
    last = omega (arith, climbs-high 0 g.rows row.0 m no_row b c row.1 i)

    at : (place : Place) → Contains (choices g) (Act place s) → (get_or g.rows row.0 no_row).place ≡ place → is_some (kind_of p (vm v) place) ≡ true
    at Nowhere there e = let none : place_index (get_or g.rows row.0 no_row).place ≡ 0 = ap place_index e in absurd (omega (arith, first))
    at (At n) there e =
        let here : place_index (get_or g.rows row.0 no_row).place ≡ n.0 + 1 = ap place_index e in
        elim (cases_eq n.0 h.0) [
          | inr other ↦ node-acts p v h n runs w (omega (arith, last)) other
          | inl same ↦
              elim stays [
                | inl acts ↦ subst (λ (q : ℕ). is_some (kind_of p (vm v) (At (record { 0 = q }))) ≡ true) (sym same) acts
                | inr none ↦ absurd (none row.0 no_row row.1 (omega (arith, here)))
              ]
        ]

-- no choice of the domain holds less than the machine uses
pub all_up : (p : Instance) (v : ℕ) (w : Weight) (h : NodeId) (t : ℕ) (g : DomainView) → state_of p v ≡ Running h → h.0 < node_count p → wanted_state p v ≡ To ToRunning → ((place : Place) (s : ℕ) → Contains (choices g) (Act place s) → is_some (kind_of p (vm v) place) ≡ true) → (c : Choice) → Contains (choices g) c → weight_of p v w Use ≤ held_at p v w (all_nodes p) t c
all_up p v w h t g s there wanted acts Idle i = idle_up p v w h t s there
all_up p v w h t g s there wanted acts (Act place u) i = acts_up p v w h t place u s there wanted (acts place u i)

-- a host is a node of the problem
pub host_there : (p : Instance) → IsInstance p → (v : ℕ) (h : NodeId) → state_of p v ≡ Running h → h.0 < node_count p
host_there p sound v h state =
    elim (slice_get_cases p.machines v).1 [
      | inl w ↦
          let runs : w.0.state ≡ Running h = sym (ap state_in w.2) ∙ state in
          let online : host_is_online p.nodes w.0.state ≡ true = (rw w.3 at (sound.inventory.hosts v w.0 w.1)) in
          is_online-lt p.nodes h.0 (rw runs at online)
      | inr w ↦ let gone : Gone ≡ Running h = sym (ap state_in w.1) ∙ state in cc
    ]

-- ---- a value that no choice is below

-- a bound of all values makes no difference to the least of them
pub least_from : (f : Choice → ℕ) (m : ℕ) (cs : List Choice) → ((c : Choice) → Contains cs c → m ≤ f c) → lowest (λ c. max m (f c)) cs ≡ lowest f cs
least_from f m [] h = refl
least_from f m (c ∷ cs) h =
    let here : m ≤ f c = h c (0, omega arith, refl) in
    let is : max m (f c) ≡ f c = omega arith in
    rw (is, least_from f m cs (λ d i. h d (suc i.0, omega (arith, i.1), i.2))) refl
