-- Lists of constraints, filled one constraint after the other.
use Rattle.rule_constraint.proofs.Prelude.{IsTrue, ◌≡◌, ◌≢◌, ◌⊎◌, inl, inr, ℕ, suc, zero, ◌+◌, ◌<◌, ◌≤◌, ◌==◌, true, false, List, [], ◌∷◌, ◌++◌, length, get_or, set, refl, sym, subst, ◌∙◌, arith, Contains, both_ways, cases_eq, cases_lt, eqb-true, false≢true, or_cases, get_or-set_other, get_or_default, get_or_past, length-set, get_or-set_at, Contains-append_cases, Contains-append_left, Contains-append_right, AreDirty, has_node, is_member, IsInPart, IsMember, IsPut, Levels, NodeSet, VmId}

contains-one : (c d : ℕ) → Contains (c ∷ []) d → d ≡ c
contains-one c d (k, h, e) = at k h e
  where
    at : (k : ℕ) → k < 1 → get_or (c ∷ []) k d ≡ d → d ≡ c
    at k h e = let first : k ≡ 0 = omega (arith, h) in sym (subst (λ j. get_or (c ∷ []) j d ≡ d) first e)

-- ---- lists of numbers

pub put_none : (c : ℕ) (lists : List (List ℕ)) → IsPut (λ k. ⊥) c lists lists
put_none c lists = record { count = refl; added = λ i h no_one. absurd no_one; kept = λ i d h. h; only = λ i d h. inl h }

-- into one list
pub put_at : (c i : ℕ) (lists : List (List ℕ)) → i < length lists → IsPut (λ k. k ≡ i) c lists (set lists i (get_or lists i [] ++ c ∷ []))
put_at c i lists within = record {
  count = length-set lists i _;
  added = λ k h same. subst (λ cs. Contains cs c) (sym (here k same)) (Contains-append_right (get_or lists i []) (c ∷ []) c (0, omega arith, refl));
  kept = λ k d h. keep k d (cases_eq k i) h;
  only = λ k d h. found k d (cases_eq k i) h;
}
  where
    here : (k : ℕ) → k ≡ i → get_or (set lists i (get_or lists i [] ++ c ∷ [])) k [] ≡ get_or lists i [] ++ c ∷ []
    here k same = get_or-set_at lists i k (get_or lists i [] ++ c ∷ []) [] same within

    keep : (k d : ℕ) → (k ≡ i) ⊎ (k ≢ i) → Contains (get_or lists k []) d → Contains (get_or (set lists i (get_or lists i [] ++ c ∷ [])) k []) d
    keep k d (inl same) h =
        subst (λ cs. Contains cs d) (sym (here k same)) (Contains-append_left (get_or lists i []) (c ∷ []) d (subst (λ j. Contains (get_or lists j []) d) same h))
    keep k d (inr ne) h = subst (λ cs. Contains cs d) (sym (get_or-set_other lists i k (get_or lists i [] ++ c ∷ []) [] ne)) h

    found : (k d : ℕ) → (k ≡ i) ⊎ (k ≢ i) → Contains (get_or (set lists i (get_or lists i [] ++ c ∷ [])) k []) d → Contains (get_or lists k []) d ⊎ (d ≡ c)
    found k d (inl same) h =
        elim (Contains-append_cases (get_or lists i []) (c ∷ []) d (subst (λ cs. Contains cs d) (here k same) h)) [
          | inl before ↦ inl (subst (λ j. Contains (get_or lists j []) d) (sym same) before)
          | inr one ↦ inr (contains-one c d one)
        ]
    found k d (inr ne) h = inl (subst (λ cs. Contains cs d) (get_or-set_other lists i k (get_or lists i [] ++ c ∷ []) [] ne) h)

-- there is no such list
pub put_past : (c i : ℕ) (lists : List (List ℕ)) → length lists ≤ i → IsPut (λ k. k ≡ i) c lists lists
put_past c i lists past = record { count = refl; added = λ k h same. absurd (omega (arith, h, same, past)); kept = λ k d h. h; only = λ k d h. inl h }

-- one after the other
pub put_then : (P Q R : ℕ → Type 0) (c : ℕ) (a b d : List (List ℕ)) → ((k : ℕ) → R k → P k ⊎ Q k) → IsPut P c a b → IsPut Q c b d → IsPut R c a d
put_then P Q R c a b d either first second = record {
  count = second.count ∙ first.count;
  added = λ k h r. elim (either k r) [ inl x ↦ second.kept k c (first.added k (omega (arith, h, second.count)) x) | inr y ↦ second.added k h y ];
  kept = λ k e h. second.kept k e (first.kept k e h);
  only = λ k e h. elim (second.only k e h) [ inl x ↦ first.only k e x | inr y ↦ inr y ];
}

pub put_fewer : (P R : ℕ → Type 0) (c : ℕ) (a b : List (List ℕ)) → ((k : ℕ) → R k → P k) → IsPut P c a b → IsPut R c a b
put_fewer P R c a b of put = record { count = put.count; added = λ k h r. put.added k h (of k r); kept = put.kept; only = put.only }

-- ---- dirty by numbers

-- one number more is dirty
pub dirty_more : (spared : ℕ → Type 0) (numbers : List ℕ) (k : ℕ) (m n : Levels) → k < length numbers → get_or numbers k 0 < length n.top → AreDirty spared k numbers m n →
    AreDirty spared (k + 1) numbers m (record n { top = set n.top (get_or numbers k 0) true })
dirty_more spared numbers k m n within low dirty = record {
  older = dirty.older;
  count = length-set n.top (get_or numbers k 0) true ∙ dirty.count;
  kept = λ i h e. dirty.kept i (below i h) (was i e (cases_eq i (get_or numbers k 0)) (below i h));
  others = λ i j h e l same. elim (cases_eq j k) [
    | inl at ↦ absurd (differs i e (below i h) (sym (subst (λ y. get_or numbers y i ≡ i) at same) ∙ get_or_default numbers k i 0 within))
    | inr ne ↦ dirty.others i j (below i h) (was i e (cases_eq i (get_or numbers k 0)) (below i h)) (omega (arith, l, ne)) same
  ];
}
  where
    below : (i : ℕ) → i < length (set n.top (get_or numbers k 0) true) → i < length n.top
    below i h = omega (arith, h, length-set n.top (get_or numbers k 0) true)

    differs : (i : ℕ) → get_or (set n.top (get_or numbers k 0) true) i false ≡ false → i < length n.top → i ≢ get_or numbers k 0
    differs i e h same = false≢true (sym e ∙ get_or-set_at n.top (get_or numbers k 0) i true false same low)

    was : (i : ℕ) → get_or (set n.top (get_or numbers k 0) true) i false ≡ false → (i ≡ get_or numbers k 0) ⊎ (i ≢ get_or numbers k 0) → i < length n.top → get_or n.top i false ≡ false
    was i e (inl same) h = absurd (differs i e h same)
    was i e (inr ne) h = sym (get_or-set_other n.top (get_or numbers k 0) i true false ne) ∙ e

-- one more is spared
pub spared_more : (spared : ℕ → Type 0) (numbers : List ℕ) (k : ℕ) (m n : Levels) → k < length numbers → (get_or n.top (get_or numbers k 0) false ≡ false → spared (get_or numbers k 0)) → AreDirty spared k numbers m n →
    AreDirty spared (k + 1) numbers m n
spared_more spared numbers k m n within it dirty = record {
  older = dirty.older;
  count = dirty.count;
  kept = dirty.kept;
  others = λ i j h e l same. elim (cases_eq j k) [
    | inl at ↦
        let here : get_or numbers k 0 ≡ i = sym (get_or_default numbers k i 0 within) ∙ subst (λ y. get_or numbers y i ≡ i) at same in
        subst spared here (it (subst (λ y. get_or n.top y false ≡ false) (sym here) e))
    | inr ne ↦ dirty.others i j h e (omega (arith, l, ne)) same
  ];
}

-- a number is in a list, or it is not
later : (n : ℕ) (ns : List ℕ) (c : ℕ) → n ≢ c → ¬ Contains ns c → ¬ Contains (n ∷ ns) c
later n ns c ne none (k, h, e) = at k h e
  where
    at : (k : ℕ) → k < suc (length ns) → get_or (n ∷ ns) k c ≡ c → ⊥
    at zero h e = ne e
    at (suc k) h e = none (k, omega (arith, h), e)

pub is_in_or_not : (ns : List ℕ) (c : ℕ) → Contains ns c ⊎ ¬ Contains ns c
is_in_or_not [] c = inr (λ x. absurd (omega (arith, x.1)))
is_in_or_not (n ∷ ns) c =
    elim (cases_eq n c) [
      | inl here ↦ inl (0, omega arith, here)
      | inr ne ↦ elim (is_in_or_not ns c) [ inl x ↦ inl (suc x.0, omega (arith, x.1), x.2) | inr none ↦ inr (later n ns c ne none) ]
    ]

pub number_at : (numbers : List ℕ) (k : ℕ) → k < length numbers → Contains numbers (get_or numbers k 0)
number_at numbers k h = (k, h, get_or_default numbers k (get_or numbers k 0) 0 h)

-- ---- loops over machines, parts and nodes

-- the machine stands at one of the first places of the list
abbrev pub StandsBefore : List VmId → ℕ → ℕ → Type 0
StandsBefore vs i v = (k : ℕ) × (k < i) × ((d : VmId) → (get_or vs k d).0 ≡ v)

pub stands_more : (vs : List VmId) (i : ℕ) (d : VmId) (v : ℕ) → StandsBefore vs (i + 1) v → StandsBefore vs i v ⊎ (v ≡ (get_or vs i d).0)
stands_more vs i d v (k, h, at) =
    elim (cases_eq k i) [
      | inl same ↦ inr (subst (λ j. v ≡ (get_or vs j d).0) same (sym (at d)))
      | inr ne ↦ inl (k, omega (arith, h, ne), at)
    ]

member-at : (vs : List VmId) (v : ℕ) → IsMember vs v → StandsBefore vs (length vs) v
member-at [] v h = absurd (both_ways false refl h)
member-at (x ∷ vs) v h =
    elim (or_cases (x.0 == v) (is_member vs v) h) [
      | inl here ↦ (0, omega arith, λ d. eqb-true _ _ here)
      | inr later ↦ let w = member-at vs v later in (suc w.0, omega (arith, w.1), w.2)
    ]

pub member_stands : (vs : List VmId) (count v : ℕ) → length vs ≤ count → IsMember vs v → StandsBefore vs count v
member_stands vs count v past h = let w = member-at vs v h in (w.0, omega (arith, w.1, past), w.2)

-- the machine is in one of the first parts
abbrev pub IsInFirst : List (List VmId) → ℕ → ℕ → Type 0
IsInFirst parts i v = (k : ℕ) × (k < i) × IsInPart parts k v

pub parts_more : (parts : List (List VmId)) (given vs : List VmId) (i v : ℕ) → i < length parts → vs ≡ given → given ≡ get_or parts i given → IsInFirst parts (i + 1) v → IsInFirst parts i v ⊎ IsMember vs v
parts_more parts given vs i v within same is (k, h, inside) =
    elim (cases_eq k i) [
      | inl at ↦ inr (subst (λ ws. IsMember ws v) (sym (same ∙ is ∙ get_or_default parts i given [] within)) (subst (λ j. IsInPart parts j v) at inside))
      | inr ne ↦ inl (k, omega (arith, h, ne), inside)
    ]

-- a part with a member is one of all
pub part_within : (parts : List (List VmId)) (count i v : ℕ) → length parts ≤ count → IsInPart parts i v → i < count
part_within parts count i v past h =
    elim (cases_lt i count) [
      | inl low ↦ low
      | inr high ↦ absurd (both_ways (is_member (get_or parts i []) v) (rw (get_or_past parts i [] (omega (arith, high, past))) refl) h)
    ]

-- the node is one of the first ones of the set
abbrev pub IsFirstOf : NodeSet → ℕ → ℕ → Type 0
IsFirstOf set i n = (n < i) × IsTrue (has_node set n)

pub node_more : (set : NodeSet) (i n : ℕ) → IsFirstOf set (i + 1) n → IsFirstOf set i n ⊎ (n ≡ i)
node_more set i n (h, inside) = elim (cases_eq n i) [ inl same ↦ inr same | inr ne ↦ inl (omega (arith, h, ne), inside) ]

pub node_skipped : (set : NodeSet) (i n : ℕ) → has_node set i ≡ false → IsFirstOf set (i + 1) n → IsFirstOf set i n
node_skipped set i n out (h, inside) =
    elim (cases_eq n i) [
      | inl same ↦ absurd (false≢true (sym out ∙ subst (λ j. has_node set j ≡ true) same inside))
      | inr ne ↦ (omega (arith, h, ne), inside)
    ]
