-- A constraint that keeps machines apart stays clean where the machine that changes surely is nowhere where it was not.
use Rattle.rule_pair.proofs.Prelude.{◌≡◌, ◌≢◌, ◌⊎◌, inl, inr, ℕ, ◌+◌, ◌<◌, ◌≤◌, Bool, true, false, ◌&&◌, ◌||◌, ◌==◌, nat_lt, IsTrue, if◌then◌else◌, List, [], ◌∷◌, length, slice_index_or, slice_get, Option, Some, None, refl, sym, ◌∙◌, arith, and_parts, cases_eq, Contains, ne_eqb, zero, suc, nat_le, other-vm, eq-eqb, eqb-true, false≢true, nat_tests, pair_kinds, present_law, surely_each, end_is_choice, arrival, and-true, numbers, of_one, own_present, same_present, vm_or, row_end, first_of, last_of, contains_here, later_in, least_of_each, same_is}
use Rattle.rule_pair.specs.Prelude.{Act, AreFewer, At, base, Bound, Choice, choices, Climbs, comes_by, Constraint, DomainView, Element, Empty, gain, Group, Hall, HasPair, has_come, have_come, hosted_in, Idle, Instance, is_continuous, IsClean, IsDisturbed, IsElement, IsEnd, IsStanding, IsUnmoved, kept_use, least, leave_climbs, leave_of, Levels, Load, never, no_row, Nowhere, of_kind, one, Pair, Place as PlaceKind, Power, Presence, present_at, putting, reason_kind, ReasonKind, Row, rule_watch, same_element, SetLoad, Sets, setting, Standing, state_of, sure, surely, Usable, vm, Vm, VmId, watch_at, place_index}
use Rattle.cluster.specs.declared.choices.Place.{Place}
use Rattle.rule_constraint.specs.Watches.{choose, kept_watch, no_watch, passes}

-- ---- where not all choices go to one node

-- a choice that has come to n is at n
at-node : (n t : ℕ) (place : Place) (s : ℕ) → has_come n t (Act place s) ≡ true → place_index place ≡ n + 1
at-node n t Nowhere s e = absurd (false≢true e)
at-node n t (At m) s e =
    let parts = and_parts (one n m.0) _ e in
    let same : m.0 ≡ n = eqb-true m.0 n parts.0 in
    omega (arith, same)

not-true : (b : Bool) → (b ≡ true → ⊥) → b ≡ false
not-true true f = absurd (f refl)
not-true false f = refl

each-come : (n t : ℕ) (cs : List Choice) (c : Choice) → Contains cs c → have_come n t cs ≡ true → has_come n t c ≡ true
each-come n t [] c there e = absurd (false≢true e)
each-come n t (x ∷ xs) c there e = surely_each (has_come n t) (x ∷ xs) c there e

pub idle_apart : (d : DomainView) → d.idle ≡ true → (n t : ℕ) → have_come n t (choices d) ≡ false
idle_apart d idle n t = rw idle refl

climbs-past : (from : ℕ) (rows : List Row) (x : Row) → Climbs from rows → 1 < length rows → place_index (slice_index_or rows 0 x).place < place_index (slice_index_or rows 1 x).place
climbs-past from [] x climbs l = absurd (omega (arith, l))
climbs-past from (r ∷ []) x climbs l = absurd (omega (arith, l))
climbs-past from (r ∷ q ∷ rs) x climbs l = omega (arith, climbs.2.0)

pub rows_apart : (d : DomainView) (rows : List Row) → rows ≡ d.rows → Climbs 0 rows → 1 < length rows → (n t : ℕ) → have_come n t (choices d) ≡ false
rows_apart d rows same climbs two n t = not-true _ (λ e.
    let first : Contains (choices d) (Act (slice_index_or rows 0 no_row).place (slice_index_or rows 0 no_row).lo) = end_is_choice (choices d) (Act (slice_index_or rows 0 no_row).place (slice_index_or rows 0 no_row).lo) (row_end d rows 0 same climbs (omega (arith, two))) in
    let second : Contains (choices d) (Act (slice_index_or rows 1 no_row).place (slice_index_or rows 1 no_row).lo) = end_is_choice (choices d) (Act (slice_index_or rows 1 no_row).place (slice_index_or rows 1 no_row).lo) (row_end d rows 1 same climbs two) in
    let a : place_index (slice_index_or rows 0 no_row).place ≡ n + 1 = at-node n t (slice_index_or rows 0 no_row).place (slice_index_or rows 0 no_row).lo (each-come n t (choices d) (Act (slice_index_or rows 0 no_row).place (slice_index_or rows 0 no_row).lo) first e) in
    let b : place_index (slice_index_or rows 1 no_row).place ≡ n + 1 = at-node n t (slice_index_or rows 1 no_row).place (slice_index_or rows 1 no_row).lo (each-come n t (choices d) (Act (slice_index_or rows 1 no_row).place (slice_index_or rows 1 no_row).lo) second e) in
    absurd (omega (arith, a, b, climbs-past 0 rows no_row climbs two)))

-- ---- where a machine surely is

as-long : (h : Bool) (t a b m g x : ℕ) (comes : Bool) → a ≤ b → IsTrue (nat_lt 0 ((if h && nat_lt t a then m else 0) + (if false then g else 0))) → IsTrue (nat_lt 0 ((if h && nat_lt t b then m else 0) + (if comes then x else 0)))
as-long false t a b m g x comes l on = absurd (false≢true on)
as-long true t a b m g x comes l on = by (nat_lt t a) refl on
  where
    by : (c : Bool) → nat_lt t a ≡ c → IsTrue (nat_lt 0 ((if c then m else 0) + 0)) → IsTrue (nat_lt 0 ((if nat_lt t b then m else 0) + (if comes then x else 0)))
    by false e h = absurd (false≢true h)
    by true e h = let later : nat_lt t b ≡ true = grind (arith, nat_tests, e, l) in rw later (grind (arith, nat_tests, h))

each-surely : (test : Choice → Bool) (cs : List Choice) → ((d : Choice) → Contains cs d → test d ≡ true) → surely test cs ≡ true
each-surely test [] h = refl
each-surely test (c ∷ cs) h = rw (h c (contains_here c cs), each-surely test cs (λ d i. h d (later_in c d cs i))) refl

pub unmoved : (p : Instance) (v : ℕ) (old now : List Choice) → p.horizon < never → now ≢ [] → ((n t : ℕ) → have_come n t now ≡ false) → least (leave_of p v) now ≤ least (leave_of p v) old → IsUnmoved p v old now
unmoved p v old now short some apart soon = record { each = λ n t l on. each-surely (present_at p v (one n) t) old (λ d there. each n t d l there on) }
  where
    k : Standing
    k = record { leave = least (leave_of p v) now; come = None }

    standing : IsStanding p v now k
    standing = record { leave = refl; come = λ n t. sym (apart n t) }

    each : (n t : ℕ) (d : Choice) → t ≤ p.horizon → Contains old d → IsTrue (surely (present_at p v (one n) t) now) → present_at p v (one n) t d ≡ true
    each n t d l there on =
        let late : t < never = omega (arith, l, short) in
        let longer : k.leave ≤ leave_of p v d = omega (arith, soon, least_of_each (leave_of p v) old d there) in
        let counted = sym (present_law p v n t now k late some standing) ∙ on in
        sym (and-true (present_at p v (one n) t d))
        ∙ present_law p v n t (d ∷ []) (numbers p v d) late (λ e. cc) (of_one p v d)
        ∙ as-long (hosted_in (state_of p v) (one n)) t k.leave (leave_of p v d) (base p v Presence) (gain p v Presence n) (gain p v Presence n) (comes_by n t (arrival d)) longer counted

-- ---- an end of what is left, beside an end of what was there before

summand : (a b : Bool) (x y : ℕ) → nat_lt 0 ((if a then x else 0) + (if b then y else 0)) ≡ true → ((a ≡ true) × (0 < x)) ⊎ ((b ≡ true) × (0 < y))
summand false false x y h = absurd (false≢true h)
summand false true x y h = inr (refl, grind (arith, nat_tests, h))
summand true false x y h = inl (refl, grind (arith, nat_tests, h))
summand true true zero y h = inr (refl, grind (arith, nat_tests, h))
summand true true (suc x) y h = inl (refl, omega arith)

by-first : (a b : Bool) (x y : ℕ) → a ≡ true → 0 < x → nat_lt 0 ((if a then x else 0) + (if b then y else 0)) ≡ true
by-first a b x y e l = rw e (grind (arith, nat_tests, l))

by-second : (a b : Bool) (x y : ℕ) → b ≡ true → 0 < y → nat_lt 0 ((if a then x else 0) + (if b then y else 0)) ≡ true
by-second a b x y e l = rw e (grind (arith, nat_tests, l))

hosted-longer : (h : Bool) (t a b : ℕ) → a ≤ b → (h && nat_lt t a) ≡ true → (h && nat_lt t b) ≡ true
hosted-longer false t a b l e = e
hosted-longer true t a b l e = grind (arith, nat_tests, e, l)

sooner-come : (n t u s : ℕ) (q : Place) → u ≤ s → comes_by n t (arrival (Act q s)) ≡ true → comes_by n t (arrival (Act q u)) ≡ true
sooner-come n t u s Nowhere l e = e
sooner-come n t u s (At m) l e = by (one n m.0) e
  where
    by : (b : Bool) → (b && nat_le s t) ≡ true → (b && nat_le u t) ≡ true
    by false e = e
    by true e = grind (arith, nat_tests, e, l)

-- where a machine is under one choice, by its numbers
pub one_law : (p : Instance) (v n t : ℕ) (c : Choice) → p.horizon < never → t ≤ p.horizon → present_at p v (one n) t c ≡ nat_lt 0 (kept_use p v Presence n t (numbers p v c))
one_law p v n t c short l = sym (and-true (present_at p v (one n) t c)) ∙ present_law p v n t (c ∷ []) (numbers p v c) (omega (arith, l, short)) (λ e. cc) (of_one p v c)

module _ (p : Instance) (v : ℕ) (old now : List Choice) (short : p.horizon < never) (fewer : AreFewer now old) where
  end_before : (n t : ℕ) (c : Choice) → t ≤ p.horizon → IsEnd now c → present_at p v (one n) t c ≡ true → (d : Choice) × IsEnd old d × (present_at p v (one n) t d ≡ true)
  end_before n t Idle l end on = (Idle, fewer Idle end, on)
  end_before n t (Act q u) l end on =
      let there : Contains old (Act q u) = fewer (Act q u) end.0 in
      elim (summand (hosted_in (state_of p v) (one n) && nat_lt t (leave_of p v (Act q u))) (comes_by n t (arrival (Act q u))) (base p v Presence) (gain p v Presence n) (sym (one_law p v n t (Act q u) short l) ∙ on)) [
        | inl x ↦
            let last = last_of old q u there in
            let longer = leave_climbs p v q u last.0 (last.2 u there) in (
              Act q last.0,
              (last.1, inr last.2),
              one_law p v n t (Act q last.0) short l
                  ∙ by-first (hosted_in (state_of p v) (one n) && nat_lt t (leave_of p v (Act q last.0))) (comes_by n t (arrival (Act q last.0))) (base p v Presence) (gain p v Presence n) (hosted-longer (hosted_in (state_of p v) (one n)) t _ _ longer x.0) x.1,
            )
        | inr x ↦
            let first = first_of old q u there in (
              Act q first.0,
              (first.1, inl first.2),
              one_law p v n t (Act q first.0) short l
                  ∙ by-second (hosted_in (state_of p v) (one n) && nat_lt t (leave_of p v (Act q first.0))) (comes_by n t (arrival (Act q first.0))) (base p v Presence) (gain p v Presence n) (sooner-come n t first.0 u q (first.2 u there) x.0) x.1,
            )
      ]

-- ---- what was before

module _ (v : ℕ) (old : List Choice) (s : Sets) where
  own_before : putting (vm v) old s (vm v) ≡ old
  own_before = rw (eq-eqb v v refl) refl

  pub other_before : (e : Element) → vm v ≢ e → putting (vm v) old s e ≡ s e
  other_before e ne = at (same_element e (vm v)) refl
    where
      at : (b : Bool) → same_element e (vm v) ≡ b → (if b then old else s e) ≡ s e
      at true x = absurd (ne (sym (same_is e (vm v) x)))
      at false x = refl

-- ---- a constraint

module _ (p : Instance) (k : Constraint) (v : ℕ) (old : List Choice) (s : Sets) (short : p.horizon < never) (is : reason_kind k ≡ Some Pair) (fewer : AreFewer (s (vm v)) old) (un : IsUnmoved p v old (s (vm v))) (clean : IsClean (rule_watch p k) p (putting (vm v) old s)) where
  abbrev before : Sets
  before = putting (vm v) old s

  sure-before : (w n t : ℕ) → t ≤ p.horizon → IsTrue ((sure p s t).present w (one n)) → IsTrue ((sure p before t).present w (one n))
  unfolding sure
  sure-before w n t l on = elim (cases_eq w v) [
    | inl same ↦ let here : IsTrue ((sure p s t).present v (one n)) = rw same at on in rw (same, eq-eqb v v refl) (un.each n t l here)
    | inr ne ↦ rw (ne_eqb w v ne) on
  ]

  module _ (t : ℕ) (l : t ≤ p.horizon) (due : IsTrue (is_continuous k || (t == p.horizon))) where
    none-together : HasPair p (sure p s t) k → ⊥
    none-together x = (clean t l).base (due, inl (x.0, x.1, x.2, x.3, x.4, x.5, record { forbidden = x.6.forbidden; differ = x.6.differ; first = sure-before x.0 x.2 t l x.6.first; second = sure-before x.1 x.2 t l x.6.second }))

    -- another element is set
    elsewhere : (e : Element) (c : Choice) (w n : ℕ) → vm v ≢ e → IsTrue ((sure p (setting e c s) t).present w (one n)) → IsTrue ((sure p (setting e c before) t).present w (one n))
    elsewhere e c w n ne on = elim (vm_or e w) [
      | inl same ↦ rw same (own_present p before w n t c ∙ (sym (own_present p s w n t c) ∙ (rw same at on)))
      | inr off ↦ same_present p before e c w n t off ∙ sure-before w n t l (sym (same_present p s e c w n t off) ∙ on)
    ]

    -- the machine itself is set
    itself : (c d : Choice) (w n : ℕ) → present_at p v (one n) t d ≡ true → IsTrue ((sure p (setting (vm v) c s) t).present w (one n)) → IsTrue ((sure p (setting (vm v) d before) t).present w (one n))
    itself c d w n there on = elim (cases_eq w v) [
      | inl same ↦ rw same (own_present p before v n t d ∙ there)
      | inr ne ↦ same_present p before (vm v) d w n t (other-vm w v ne) ∙ sure-before w n t l (sym (same_present p s (vm v) c w n t (other-vm w v ne)) ∙ on)
    ]

    own-end : (c : Choice) → IsElement p (vm v) → IsEnd (s (vm v)) c → (x : HasPair p (sure p (setting (vm v) c s) t) k) → present_at p v (one x.2) t c ≡ true → ⊥
    own-end c element end x on =
        let d = end_before p v old (s (vm v)) short fewer x.2 t c l end on in
        (clean t l).ends (vm v) d.0 element (rw (own_before v old s) d.1)
        (due, inl (x.0, x.1, x.2, x.3, x.4, x.5, record { forbidden = x.6.forbidden; differ = x.6.differ; first = itself c d.0 x.0 x.2 d.2 x.6.first; second = itself c d.0 x.1 x.2 d.2 x.6.second }))

    own : (c : Choice) → IsElement p (vm v) → IsEnd (s (vm v)) c → HasPair p (sure p (setting (vm v) c s) t) k → ⊥
    own c element end x = elim (cases_eq x.0 v) [
      | inl a ↦ own-end c element end x (sym (own_present p s v x.2 t c) ∙ (rw a at x.6.first))
      | inr na ↦
          elim (cases_eq x.1 v) [
            | inl b ↦ own-end c element end x (sym (own_present p s v x.2 t c) ∙ (rw b at x.6.second))
            | inr nb ↦ none-together (
              x.0,
              x.1,
              x.2,
              x.3,
              x.4,
              x.5,
              record {
                forbidden = x.6.forbidden;
                differ = x.6.differ;
                first = sym (same_present p s (vm v) c x.0 x.2 t (other-vm x.0 v na)) ∙ x.6.first;
                second = sym (same_present p s (vm v) c x.1 x.2 t (other-vm x.1 v nb)) ∙ x.6.second;
              },
            )
          ]
    ]

    with-end : (e : Element) (c : Choice) → IsElement p e → IsEnd (s e) c → HasPair p (sure p (setting e c s) t) k → ⊥
    with-end e c element end x = elim (vm_or e v) [
      | inl same ↦ own c (rw same at element) (rw same at end) (rw same at x)
      | inr ne ↦
          (clean t l).ends e c element (rw (other_before v old s e ne) end)
          (due, inl (x.0, x.1, x.2, x.3, x.4, x.5, record { forbidden = x.6.forbidden; differ = x.6.differ; first = elsewhere e c x.0 x.2 ne x.6.first; second = elsewhere e c x.1 x.2 ne x.6.second }))
    ]

  stays : IsClean (rule_watch p k) p s
  stays t l = record {
    base = λ x. none-together t l x.0 (of_kind p (sure p s t) Pair k is x.1);
    ends = λ e c element end x. with-end t l x.0 e c element end (of_kind p (sure p (setting e c s) t) Pair k is x.1);
  }

-- ---- the watches

none-clean : (p : Instance) (s : Sets) → IsClean no_watch p s
none-clean p s t l = record { base = λ broken. broken; ends = λ e c element end broken. broken }

of-pairs : (o : Option ReasonKind) → passes pair_kinds o ≡ true → o ≡ Some Pair
of-pairs None h = absurd (false≢true h)
of-pairs (Some Empty) h = absurd (false≢true h)
of-pairs (Some Bound) h = absurd (false≢true h)
of-pairs (Some Load) h = absurd (false≢true h)
of-pairs (Some Pair) h = refl
of-pairs (Some PlaceKind) h = absurd (false≢true h)
of-pairs (Some Group) h = absurd (false≢true h)
of-pairs (Some SetLoad) h = absurd (false≢true h)
of-pairs (Some Power) h = absurd (false≢true h)
of-pairs (Some Usable) h = absurd (false≢true h)
of-pairs (Some Hall) h = absurd (false≢true h)

watch-stays : (p : Instance) (o : Option Constraint) (v : ℕ) (old : List Choice) (s : Sets) → p.horizon < never → AreFewer (s (vm v)) old → IsUnmoved p v old (s (vm v)) → IsClean (kept_watch pair_kinds p o) p (putting (vm v) old s) → IsClean (kept_watch pair_kinds p o) p s
watch-stays p None v old s short fewer un clean = none-clean p s
watch-stays p (Some k) v old s short fewer un clean = at (passes pair_kinds (reason_kind k)) refl clean
  where
    at : (b : Bool) → passes pair_kinds (reason_kind k) ≡ b → IsClean (choose b (rule_watch p k) no_watch) p (putting (vm v) old s) → IsClean (choose b (rule_watch p k) no_watch) p s
    at true e clean = stays p k v old s short (of-pairs (reason_kind k) e) fewer un clean
    at false e clean = none-clean p s

pub unmoved_disturbs_none : (p : Instance) (s : Sets) (v : VmId) (old : List Choice) (m : Levels) → p.horizon < never → AreFewer (s (Vm v)) old → IsUnmoved p v.0 old (s (Vm v)) → IsDisturbed (watch_at pair_kinds p) p s (Vm v) old m m
unmoved_disturbs_none p s v old m short fewer un = record {
  older = refl;
  count = refl;
  kept = λ i h e. e;
  still = λ i h e. inr (λ clean. watch-stays p (slice_get p.constraints i) v.0 old s short fewer un clean);
}
