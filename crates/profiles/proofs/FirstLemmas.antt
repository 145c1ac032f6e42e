-- Instants before which no machine starts at a node.
use Rattle.profiles.proofs.Prelude.{◌≡◌, ◌≢◌, ◌⊎◌, inl, inr, ℕ, zero, suc, ◌+◌, ◌*◌, ◌<◌, ◌≤◌, Bool, true, false, cond, List, [], ◌∷◌, ◌++◌, flat_map, length, sym, take, drop, refl, ap, subst, ◌∙◌, arith, Option, Some, None, slice_index_or, slice_set, unwrap_or, Contains, filter, cases_eq, nat_tests, row_fits, length-set, length-take, length-drop, get_or-set_same, get_or-set_other, get_or-take, get_or-drop, Act, AreFirstAt, AreFirsts, At, Choice, choices, DomainView, From, Idle, in_part, Instance, IsNoLater, least, lowest, machine_count, node_count, Row, row_choices, Sets, slot_of, start_count, stays, vm, contains_filter, least_of_each, none_is_empty}

-- ---- the first start of some choices

here : (n start : ℕ) → in_part (From (At (record { 0 = n })) 0) (Act (At (record { 0 = n })) start) ≡ true
here n start = grind (arith, nat_tests)

-- a start at the node is one of those inside
inside : (cs ins : List Choice) (n start : ℕ) → ins ≡ filter (in_part (From (At (record { 0 = n })) 0)) cs → Contains cs (Act (At (record { 0 = n })) start) → Contains (filter (stays None) ins) (Act (At (record { 0 = n })) start)
inside cs ins n start is h =
    let there = contains_filter (in_part (From (At (record { 0 = n })) 0)) cs (Act (At (record { 0 = n })) start) h (here n start) in
    contains_filter (stays None) ins (Act (At (record { 0 = n })) start) (rw is there) refl

in-empty : (c : Choice) → Contains [] c → ⊥
in-empty c h = omega (arith, h.1)

pub none_first : (cs ins : List Choice) (n first : ℕ) → ins ≡ filter (in_part (From (At (record { 0 = n })) 0)) cs → lowest start_count (filter (stays None) ins) ≡ None → IsNoLater cs n first
none_first cs ins n first is none = record {
  each = λ start h. absurd (in-empty (Act (At (record { 0 = n })) start) (subst (λ xs. Contains xs (Act (At (record { 0 = n })) start)) (none_is_empty start_count (filter (stays None) ins) none) (inside cs ins n start is h)));
}

pub some_first : (cs ins : List Choice) (n first low : ℕ) → ins ≡ filter (in_part (From (At (record { 0 = n })) 0)) cs → lowest start_count (filter (stays None) ins) ≡ Some low → first ≤ low → IsNoLater cs n first
some_first cs ins n first low is some less = record {
  each = λ start h.
      let most = least_of_each start_count (filter (stays None) ins) (Act (At (record { 0 = n })) start) (inside cs ins n start is h) in
      let same : least start_count (filter (stays None) ins) ≡ low = ap (λ (o : Option ℕ). unwrap_or o 0) some in
      omega (arith, less, most, same);
}

-- where there is no row no choice starts anywhere
pub never_first : (d : DomainView) (rows : List Row) → rows ≡ d.rows → length rows < 1 → (n first : ℕ) → IsNoLater (choices d) n first
never_first d rows same none n first = record { each = λ start h. absurd (at d.idle start (subst (λ (rs : List Row). Contains (cond d.idle (Idle ∷ []) [] ++ flat_map row_choices rs) (Act (At (record { 0 = n })) start)) (sym same ∙ empty rows none) h)) }
  where
    empty : (xs : List Row) → length xs < 1 → xs ≡ []
    empty [] h = refl
    empty (y ∷ ys) h = absurd (omega (arith, h))

    at : (b : Bool) (start : ℕ) → Contains (cond b (Idle ∷ []) [] ++ []) (Act (At (record { 0 = n })) start) → ⊥
    at true start (zero, low, is) = cc
    at true start (suc k, low, is) = omega (arith, low)
    at false start h = omega (arith, h.1)

-- ---- slots

pub slot_low : (nodes machines n v : ℕ) → n < nodes → v < machines → slot_of machines n v < nodes * machines
slot_low nodes machines n v low l = omega (arith, row_fits n machines nodes machines low (omega arith), l)

-- two that differ have slots that do
apart : (machines n v m w : ℕ) → v < machines → w < machines → (m ≢ n) ⊎ (w ≢ v) → slot_of machines m w ≢ slot_of machines n v
apart machines n v m w l k (inr other) same = elim (cases_eq m n) [ inl is ↦ other (omega (arith, same, ap (λ i. i * machines) is)) | inr not ↦ far machines n v m w l k not same ]
  where
    far : (machines n v m w : ℕ) → v < machines → w < machines → m ≢ n → slot_of machines m w ≢ slot_of machines n v
    far machines n v m w l k not same =
        let split : (m < n) ⊎ (n < m) = grind (arith, not) in
        elim split [ inl low ↦ omega (arith, row_fits m machines n machines low (omega arith), same, k) | inr high ↦ omega (arith, row_fits n machines m machines high (omega arith), same, l) ]
apart machines n v m w l k (inl not) same =
    let split : (m < n) ⊎ (n < m) = grind (arith, not) in
    elim split [ inl low ↦ omega (arith, row_fits m machines n machines low (omega arith), same, k) | inr high ↦ omega (arith, row_fits n machines m machines high (omega arith), same, l) ]

-- ---- those of all nodes and machines

-- nothing is earlier than 0
pub all_nought : (p : Instance) (s : Sets) (xs : List ℕ) → length xs ≡ node_count p * machine_count p → ((i : ℕ) → slice_index_or xs i 0 ≡ 0) → AreFirsts p s xs
all_nought p s xs count nought = record { count = count; each = λ n v low l. record { each = λ start h. omega (arith, nought (slot_of (machine_count p) n v)) } }

pub firsts_put : (p : Instance) (s : Sets) (n v first : ℕ) (xs : List ℕ) → n < node_count p → v < machine_count p → AreFirsts p s xs → IsNoLater (s (vm v)) n first → AreFirsts p s (slice_set xs (slot_of (machine_count p) n v) first)
firsts_put p s n v first xs low l was is = record {
  count = length-set xs (slot_of (machine_count p) n v) first ∙ was.count;
  each = λ m w k j. elim (cases_eq m n) [
    | inl node ↦ elim (cases_eq w v) [
      | inl machine ↦ rw (node, machine, get_or-set_same xs (slot_of (machine_count p) n v) first 0 (omega (arith, was.count, slot_low (node_count p) (machine_count p) n v low l))) is
      | inr other ↦ rw (get_or-set_other xs (slot_of (machine_count p) n v) (slot_of (machine_count p) m w) first 0 (apart (machine_count p) n v m w l j (inr other))) (was.each m w k j)
    ]
    | inr other ↦ rw (get_or-set_other xs (slot_of (machine_count p) n v) (slot_of (machine_count p) m w) first 0 (apart (machine_count p) n v m w l j (inl other))) (was.each m w k j)
  ];
}

-- of fewer choices they are as right
pub firsts_fewer : (p : Instance) (s old : Sets) (xs : List ℕ) → AreFirsts p old xs → ((v : ℕ) (c : Choice) → v < machine_count p → Contains (s (vm v)) c → Contains (old (vm v)) c) → AreFirsts p s xs
firsts_fewer p s old xs was fewer = record { count = was.count; each = λ n v low l. record { each = λ start h. (was.each n v low l).each start (fewer v (Act (At (record { 0 = n })) start) l h) } }

-- ---- those at one node

pub firsts_at : (p : Instance) (s : Sets) (n : ℕ) (xs : List ℕ) → n < node_count p → AreFirsts p s xs → AreFirstAt p s n (take (machine_count p) (drop (n * machine_count p) xs))
firsts_at p s n xs low are = record {
  count = omega (arith, length-take (machine_count p) (drop (n * machine_count p) xs), length-drop (n * machine_count p) xs, are.count, row_fits n (machine_count p) (node_count p) (machine_count p) low (omega arith));
  each = λ v l. rw (get_or-take (machine_count p) (drop (n * machine_count p) xs) v 0 l, get_or-drop (n * machine_count p) xs v 0) (are.each n v low l);
}
