-- The machines of a list, by their places in it; of those that act, one at a time.
use Rattle.relax.proofs.Prelude.{IfSome, IsTrue, map, ◌≡◌, inl, inr, ℕ, zero, suc, ◌+◌, ◌<◌, ◌≤◌, false, not, ◌==◌, List, [], ◌∷◌, length, get_or, Option, Some, None, refl, sym, ap, ◌∙◌, arith, All, range_with_len, both_ways, eq-eqb, cases_eq, get_or-map, get_or_default, length-map, get_or-map-range_with_len, length-map-range_with_len, list_any_at, Acting, AreAllOut, AreBothActing, AreScattered, has_node, HasOutside, IsMember, Nodes, NodeSet, one, Snapshot, VmId, member_at}

-- a place has a machine of the list
pub at_member : (vs : List VmId) (k : ℕ) (d : VmId) → k < length vs → IsMember vs (get_or vs k d).0
at_member vs k d l = list_any_at (λ x. x.0 == (get_or vs k d).0) vs k d l (eq-eqb (get_or vs k d).0 (get_or vs k d).0 refl)

-- ---- those that act, one at a time

-- what is noted is the one of the first so many machines that acts
pub record IsAlone (s : Snapshot) (vs : List VmId) (count : ℕ) (acting : Option VmId) : Type 0 where
  pub others : (k : ℕ) (d : VmId) → k < count → IsTrue (s.action (get_or vs k d).0 Acting) → acting ≡ Some (get_or vs k d)
  pub there : (v : VmId) → acting ≡ Some v → IsMember vs v.0 × IsTrue (s.action v.0 Acting)

-- one more that acts, where another one is noted
pub meet : (s : Snapshot) (vs : List VmId) (i : ℕ) (d : VmId) (acting : Option VmId) → i < length vs → IsTrue (s.action (get_or vs i d).0 Acting) → ¬ IfSome acting (λ w. w.0 ≡ (get_or vs i d).0) → IsAlone s vs i acting → AreBothActing s vs
meet s vs i d None l acts other alone = absurd (other tt)
meet s vs i d (Some w) l acts other alone =
    let there = alone.there w refl in
    record { v = w.0; w = (get_or vs i d).0; differ = other; first_member = there.0; second_member = at_member vs i d l; first = there.1; second = acts }

-- all have been met
pub none_meet : (s : Snapshot) (vs : List VmId) (count : ℕ) (acting : Option VmId) → length vs ≤ count → IsAlone s vs count acting → ¬ AreBothActing s vs
none_meet s vs count acting l alone both =
    let a = member_at vs both.v both.first_member in
    let b = member_at vs both.w both.second_member in
    let d : VmId = record { 0 = 0 } in
    let first : acting ≡ Some (get_or vs a.0 d) = alone.others a.0 d (omega (arith, a.1)) (rw (a.2 d) both.first) in
    let second : acting ≡ Some (get_or vs b.0 d) = alone.others b.0 d (omega (arith, b.1)) (rw (b.2 d) both.second) in
    let same : get_or vs a.0 d ≡ get_or vs b.0 d = cc in
    both.differ (sym (a.2 d) ∙ ap (λ (x : VmId). x.0) same ∙ b.2 d)

-- ---- groups

-- each of a list of groups has a member outside, and there is one
pub scattered : (s : Snapshot) (vs : List VmId) (groups : List Nodes) → 0 < length groups → All (HasOutside s vs) groups → AreScattered s vs groups
scattered s vs [] l h = absurd (omega arith)
scattered s vs (g ∷ groups) l h = record { some = λ e. cc; each = h }

-- one group has none
pub not_scattered : (s : Snapshot) (vs : List VmId) (groups : List Nodes) (k : ℕ) → k < length groups → AreAllOut s vs (λ m. not (get_or groups k (λ _. false) m)) → ¬ AreScattered s vs groups
not_scattered s vs groups k l out h =
    let w = h.each k (λ _. false) l in both_ways (s.present w.0 (λ m. not (get_or groups k (λ _. false) m))) (out w.0 w.1) w.2

-- each single node
pub nodes_scattered : (s : Snapshot) (vs : List VmId) (n : ℕ) → 0 < n → ((k : ℕ) → k < n → HasOutside s vs (one k)) → AreScattered s vs (map one (range_with_len 0 n))
nodes_scattered s vs n l h =
    let count : length (map one (range_with_len 0 n)) ≡ n = length-map-range_with_len one 0 n in
    scattered s vs (map one (range_with_len 0 n)) (omega (arith, count)) (λ k d u. rw (get_or-map-range_with_len one 0 n k k d (omega (arith, count)) (omega arith)) (h k (omega (arith, count))))

pub nodes_not_scattered : (s : Snapshot) (vs : List VmId) (n k : ℕ) → k < n → AreAllOut s vs (λ m. not (one k m)) → ¬ AreScattered s vs (map one (range_with_len 0 n))
nodes_not_scattered s vs n k l out =
    let count : length (map one (range_with_len 0 n)) ≡ n = length-map-range_with_len one 0 n in
    let there : get_or (map one (range_with_len 0 n)) k (λ _. false) ≡ one k = get_or-map-range_with_len one 0 n k k (λ _. false) l (omega arith) in
    not_scattered s vs (map one (range_with_len 0 n)) k (omega (arith, count)) (rw there out)

-- each set of a list
pub sets_scattered : (s : Snapshot) (vs : List VmId) (groups : List NodeSet) → 0 < length groups → ((k : ℕ) (d : NodeSet) → k < length groups → HasOutside s vs (has_node (get_or groups k d))) → AreScattered s vs (map has_node groups)
sets_scattered s vs groups l h =
    let count : length (map has_node groups) ≡ length groups = length-map groups has_node in
    scattered s vs (map has_node groups) (omega (arith, count)) (λ k d u. at groups k d (omega (arith, count)) (h k))
  where
    at : (gs : List NodeSet) (k : ℕ) (d : Nodes) → k < length gs → ((e : NodeSet) → k < length gs → HasOutside s vs (has_node (get_or gs k e))) → HasOutside s vs (get_or (map has_node gs) k d)
    at [] k d u f = absurd (omega arith)
    at (g ∷ gs) zero d u f = f g u
    at (g ∷ gs) (suc k) d u f = at gs k d (omega arith) (λ e v. f e (omega arith))

pub sets_not_scattered : (s : Snapshot) (vs : List VmId) (groups : List NodeSet) (k : ℕ) (g : NodeSet) → k < length groups → g ≡ get_or groups k g → AreAllOut s vs (λ m. not (has_node g m)) → ¬ AreScattered s vs (map has_node groups)
sets_not_scattered s vs groups k g l e out h =
    let count : length (map has_node groups) ≡ length groups = length-map groups has_node in
    let there : get_or (map has_node groups) k (has_node g) ≡ has_node g = get_or-map has_node groups k g (has_node g) l ∙ ap has_node (sym e) in
    let w = rw there at (h.each k (has_node g) (omega (arith, count))) in
    both_ways (s.present w.0 (λ m. not (has_node g m))) (out w.0 w.1) w.2

-- one set more
pub more_outside : (s : Snapshot) (vs : List VmId) (groups : List NodeSet) (i : ℕ) (g : NodeSet) → i < length groups → g ≡ get_or groups i g → HasOutside s vs (has_node g) → ((k : ℕ) (d : NodeSet) → k < i → HasOutside s vs (has_node (get_or groups k d))) → (k : ℕ) (d : NodeSet) → k < i + 1 → HasOutside s vs (has_node (get_or groups k d))
more_outside s vs groups i g l e here before k d u =
    elim (cases_eq k i) [
      | inl same ↦ rw (same, get_or_default groups i d g l, ← e) here
      | inr other ↦ before k d (omega arith)
    ]
