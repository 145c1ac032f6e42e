-- Members of which no group has all.
use Rattle.quick_checks.proofs.Prelude.{All, arith, cases_eq, cases_lt, inl, inr, get_or, get_or_default, get_or-map-range_with_len, eq-eqb, IsTrue, length, length-map, length-map-range_with_len, List, list_any_at, map, range_with_len, refl, suc, zero, ◌+◌, ◌<◌, ◌==◌, ◌∷◌, ◌≡◌, ℕ, [], AreScattered, has_node, IsOneIn, Nodes, NodeSet, one, Snapshot, VmId}
use Rattle.reasons.specs.Prelude.{HasOutside}

-- a machine at a place of the list is there
pub one_at : (s : Snapshot) (vs : List VmId) (set : Nodes) (k : ℕ) (d : VmId) → k < length vs → IsTrue (s.present (get_or vs k d).0 set) → IsOneIn s vs set
one_at s vs set k d low h = ((get_or vs k d).0, list_any_at (λ x. x.0 == (get_or vs k d).0) vs k d low (eq-eqb (get_or vs k d).0 (get_or vs k d).0 refl), h)

some-group : (s : Snapshot) (vs : List VmId) (groups : List Nodes) → 0 < length groups → All (HasOutside s vs) groups → AreScattered s vs groups
some-group s vs [] low h = absurd (omega arith)
some-group s vs (g ∷ groups) low h = record { some = λ e. cc; each = h }

nth-set : (P : Nodes → Type 0) (gs : List NodeSet) (k : ℕ) (d : Nodes) → k < length gs → ((e : NodeSet) → P (has_node (get_or gs k e))) → P (get_or (map has_node gs) k d)
nth-set P [] k d low h = absurd (omega arith)
nth-set P (g ∷ gs) zero d low h = h g
nth-set P (g ∷ gs) (suc k) d low h = nth-set P gs k d (omega arith) h

pub nodes_scattered : (s : Snapshot) (vs : List VmId) (n : ℕ) → 0 < n → ((k : ℕ) → k < n → HasOutside s vs (one k)) → AreScattered s vs (map one (range_with_len 0 n))
nodes_scattered s vs n low h =
    let count : length (map one (range_with_len 0 n)) ≡ n = length-map-range_with_len one 0 n in
    some-group s vs (map one (range_with_len 0 n)) (omega (arith, count)) (λ k d u. rw (get_or-map-range_with_len one 0 n k k d (omega (arith, count)) (omega arith)) (h k (omega (arith, count))))

pub sets_scattered : (s : Snapshot) (vs : List VmId) (groups : List NodeSet) → 0 < length groups → ((k : ℕ) (d : NodeSet) → k < length groups → HasOutside s vs (has_node (get_or groups k d))) → AreScattered s vs (map has_node groups)
sets_scattered s vs groups low h =
    let count : length (map has_node groups) ≡ length groups = length-map groups has_node in
    some-group s vs (map has_node groups) (omega (arith, count)) (λ k d u. nth-set (HasOutside s vs) groups k d (omega (arith, count)) (λ e. h k e (omega (arith, count))))

-- ---- one more in a loop

pub below_next : (P : ℕ → Type 0) (i : ℕ) → ((k : ℕ) → k < i → P k) → P i → (k : ℕ) → k < i + 1 → P k
below_next P i h at k l = elim (cases_lt k i) [ inl before ↦ h k before | inr past ↦ let same : k ≡ i = omega (arith, l, past) in rw same at ]

pub more_outside : (s : Snapshot) (vs : List VmId) (groups : List NodeSet) (i : ℕ) (g : NodeSet) → i < length groups → g ≡ get_or groups i g → HasOutside s vs (has_node g) → ((k : ℕ) (d : NodeSet) → k < i → HasOutside s vs (has_node (get_or groups k d))) → (k : ℕ) (d : NodeSet) → k < i + 1 → HasOutside s vs (has_node (get_or groups k d))
more_outside s vs groups i g l e here before k d u =
    elim (cases_eq k i) [
      | inl same ↦ rw (same, get_or_default groups i d g l, ← e) here
      | inr other ↦ before k d (omega arith)
    ]
