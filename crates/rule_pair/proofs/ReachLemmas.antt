-- Rows at places at which there is no stay, or that start after it.
use Rattle.rule_pair.proofs.Prelude.{arith, AreOrdered, Bool, true, false, cases_lt, if◌then◌else◌, inl, inr, IsLate, length, List, no_row, nobody, slice_index_or, suc, zero, [], ℕ, ◌+◌, ◌<◌, ◌==◌, ◌∷◌, ◌≡◌, ◌≤◌}
use Rattle.base.proofs.Public.{refl, subst, sym}
use Rattle.std.specs.Prelude.{slice_set}
use Rattle.std.proofs.lemmas.Grind.{get_or-set_at}
use Rattle.std.proofs.lemmas.List.{get_or-set_other}
use Rattle.cluster.specs.declared.choices.Place.{Place as AnyPlace}
use Rattle.std.proofs.Common.{◌/◌, ◌%◌}
use Rattle.std.specs.List.{Contains}
use Rattle.std.specs.Int.{bit_at}
use Rattle.cluster.specs.declared.ids.NodeId.{NodeId}
use Rattle.machine_bounds.specs.Prelude.{StartsFrom}
use Rattle.rule_pair.proofs.Prelude.{choices, DomainView, end_is_choice, ends_of_rows}
use Rattle.rule_pair.specs.Prelude.{Act, AreEnds, AreGone, AreStayEnds, AreUntils, At, Climbs, Ends, IsKnown, IsLateOrKnown, Longest, Nowhere, place_index, Row, Sets, told_until, vm}

climbs-from : (from : ℕ) (rows : List Row) (k : ℕ) → Climbs from rows → k < length rows → from ≤ place_index (slice_index_or rows k no_row).place
climbs-from from [] k c l = absurd (omega arith)
climbs-from from (r ∷ rs) zero c l = c.0
climbs-from from (r ∷ rs) (suc k) c l = let rest = climbs-from (place_index r.place + 1) rs k c.2 (omega arith) in omega (arith, rest, c.0)

-- a later row is at no earlier place
pub places_climb : (from : ℕ) (rows : List Row) (i j : ℕ) → Climbs from rows → i ≤ j → j < length rows → place_index (slice_index_or rows i no_row).place ≤ place_index (slice_index_or rows j no_row).place
places_climb from [] i j c le l = absurd (omega arith)
places_climb from (r ∷ rs) zero zero c le l = omega arith
places_climb from (r ∷ rs) zero (suc j) c le l = let rest = climbs-from (place_index r.place + 1) rs j c.2 (omega arith) in omega (arith, rest)
places_climb from (r ∷ rs) (suc i) zero c le l = absurd (omega arith)
places_climb from (r ∷ rs) (suc i) (suc j) c le l = places_climb (place_index r.place + 1) rs i j c.2 (omega arith) (omega arith)

-- all rows up to one at a place before that of a number are so
pub all_before : (rows : List Row) (m number : ℕ) → Climbs 0 rows → m < length rows → place_index (slice_index_or rows m no_row).place < number → (k : ℕ) → k < m + 1 → place_index (slice_index_or rows k no_row).place < number
all_before rows m number c l h k u = let le = places_climb 0 rows k m c (omega arith) l in omega (arith, le, h)

-- a row after all stays is late
pub late_past : (xs : List Longest) (part from : ℕ) (x : Ends) (q : AnyPlace) (lo : ℕ) → AreUntils xs part x.until → AreEnds from x → x.past < place_index q → IsLate xs part from q lo
late_past xs part from x Nowhere lo untils ends out = tt
late_past xs part from x (At n) lo untils ends out =
    let told = untils.each n.0 in
    elim (cases_lt from (slice_index_or x.until n.0 0)) [
      | inr none ↦ omega (arith, none, told)
      | inl lasts ↦ absurd (omega (arith, ends.past n.0 lasts, out))
    ]

-- and so are all rows from it on
pub late_from : (xs : List Longest) (part from number : ℕ) (x : Ends) (rows : List Row) (i : ℕ) → Climbs 0 rows → AreUntils xs part x.until → AreEnds from x → i < length rows → x.past < place_index (slice_index_or rows i no_row).place → ((k : ℕ) → k < i → number ≤ place_index (slice_index_or rows k no_row).place → IsLate xs part from (slice_index_or rows k no_row).place (slice_index_or rows k no_row).lo) → (k : ℕ) → k < length rows → number ≤ place_index (slice_index_or rows k no_row).place → IsLate xs part from (slice_index_or rows k no_row).place (slice_index_or rows k no_row).lo
late_from xs part from number x rows i c untils ends l past before k u from-there = elim (cases_lt k i) [
  | inl early ↦ before k early from-there
  | inr later ↦ let le = places_climb 0 rows i k c later u in late_past xs part from x (slice_index_or rows k no_row).place (slice_index_or rows k no_row).lo untils ends (omega (arith, le, past))
]

-- ---- what is known

-- where each node before one at which a stay lasts is known, rows there are late or known, and so are those of which it is seen
pub late_or_known : (xs : List Longest) (part from : ℕ) (bounds gs : List ℕ) (x : Ends) (w first : ℕ) (q : AnyPlace) (lo : ℕ) → AreStayEnds xs part from bounds x → ((n : ℕ) → n < first → bit_at (slice_index_or x.nodes (n / 64) 0) (n % 64) ≡ 1 → IsKnown gs x.enough w n) → (first + 1 ≤ place_index q → IsLate xs part from q lo) → IsLateOrKnown xs part from gs x.enough w q lo
late_or_known xs part from bounds gs x w first Nowhere lo stays known seen = tt
late_or_known xs part from bounds gs x w first (At n) lo stays known seen = elim (cases_lt n.0 first) [
  | inr after ↦ inl (seen (omega (arith, after)))
  | inl before ↦
      let told = stays.until.each n.0 in
      elim (cases_lt from (slice_index_or x.until n.0 0)) [
        | inr none ↦ inl (omega (arith, none, told))
        | inl lasts ↦ inr (known n.0 before (stays.ends.nodes.each n.0 lasts))
      ]
]

-- and where all nodes are known, so is each row
pub all_known : (xs : List Longest) (part from : ℕ) (bounds gs : List ℕ) (x : Ends) (w : ℕ) (q : AnyPlace) (lo : ℕ) → AreStayEnds xs part from bounds x → ((n : ℕ) → bit_at (slice_index_or x.nodes (n / 64) 0) (n % 64) ≡ 1 → IsKnown gs x.enough w n) → IsLateOrKnown xs part from gs x.enough w q lo
all_known xs part from bounds gs x w q lo stays known = late_or_known xs part from bounds gs x w (place_index q) q lo stays (λ n before. known n) (λ after. absurd (omega (arith, after)))

-- what is known is so
pub late_rows : (xs : List Longest) (part from w : ℕ) (bounds gs : List ℕ) (x : Ends) (s : Sets) (d : DomainView) (rows : List Row) → AreStayEnds xs part from bounds x → AreGone s bounds gs → s (vm w) ≡ choices d → rows ≡ d.rows → Climbs 0 rows → ((i : ℕ) → i < length rows → IsLateOrKnown xs part from gs x.enough w (slice_index_or rows i no_row).place (slice_index_or rows i no_row).lo) → (i : ℕ) → i < length rows → IsLate xs part from (slice_index_or rows i no_row).place (slice_index_or rows i no_row).lo
late_rows xs part from w bounds gs x s d rows stays gone is same climbs late i low = by (slice_index_or rows i no_row).place refl (late i low)
  where
    own : Climbs 0 d.rows
    own = rw same at climbs

    there : (q : AnyPlace) → (slice_index_or rows i no_row).place ≡ q → Contains (s (vm w)) (Act q (slice_index_or rows i no_row).lo)
    there q place = rw is (end_is_choice (choices d) (Act q (slice_index_or rows i no_row).lo) ((ends_of_rows d own (Act q (slice_index_or rows i no_row).lo)).1 (i, (rw same at low), (rw same at place), inl (rw same refl))))

    after : (n : NodeId) → IsKnown gs x.enough w n.0 → Contains (s (vm w)) (Act (At n) (slice_index_or rows i no_row).lo) → told_until xs part n.0 ≤ (slice_index_or rows i no_row).lo
    after n known starts =
        let from-bound : slice_index_or bounds known.bound 0 ≤ (slice_index_or rows i no_row).lo = (subst (λ m. StartsFrom (s (vm w)) m (slice_index_or bounds known.bound 0)) known.node (gone.each w known.bound known.low known.gone)).late (slice_index_or rows i no_row).lo starts in
        let ended : slice_index_or x.until n.0 0 ≤ slice_index_or bounds known.bound 0 = subst (λ m. slice_index_or x.until m 0 ≤ slice_index_or bounds known.bound 0) known.node (stays.enough.each known.bound known.low known.enough) in
        omega (arith, stays.until.each n.0, ended, from-bound)

    by : (q : AnyPlace) → (slice_index_or rows i no_row).place ≡ q → IsLateOrKnown xs part from gs x.enough w q (slice_index_or rows i no_row).lo → IsLate xs part from q (slice_index_or rows i no_row).lo
    by Nowhere place h = tt
    by (At n) place (inl seen) = seen
    by (At n) place (inr known) = omega (arith, after n known (there (At n) place))

-- ---- stays

-- no stay of another part than one lasts longer than the longest
pub told_first : (xs : List Longest) (part n : ℕ) → AreOrdered xs → told_until xs part n ≤ (slice_index_or xs n nobody).first.until
told_first xs part n ordered = by ((slice_index_or xs n nobody).first.part == part)
  where
    by : (b : Bool) → (if b then (slice_index_or xs n nobody).second else (slice_index_or xs n nobody).first).until ≤ (slice_index_or xs n nobody).first.until
    by true = ordered.each n
    by false = omega arith

-- the end of one stay more
pub told_more : (xs : List Longest) (part : ℕ) (us : List ℕ) (n u : ℕ) → n < length us → told_until xs part n ≤ u → ((k : ℕ) → k < n → told_until xs part k ≤ slice_index_or us k 0) → (k : ℕ) → k < n + 1 → told_until xs part k ≤ slice_index_or (slice_set us n u) k 0
told_more xs part us n u low here before k l = elim (cases_lt k n) [
  | inl early ↦ rw (get_or-set_other us n k u 0 (λ e. omega (arith, early, e))) (before k early)
  | inr later ↦ let e : k ≡ n = omega (arith, later, l) in rw (get_or-set_at us n k u 0 e low) (subst (λ i. told_until xs part i ≤ u) (sym e) here)
]
