-- The nodes that the machines of a list reach, and groups of nodes.
use Rattle.placement_rules.proofs.Prelude.{◌↔◌, map, Any, IsTrue, ◌≡◌, inl, inr, ℕ, ◌+◌, ◌<◌, true, false, List, length, get_or, nat_lt, sym, ap, subst, ◌∙◌, arith, list_all, range_with_len, both_ways, cases_eq, eqb-true, false_from_ne_true, get_or-map, get_or_read, length-map, slice_get_cases, get_or-range_with_len, length-range_with_len, AreAbsent, AreGrouped, AreReached, AreWithin, has_node, Instance, machine_count, node_count, Nodes, NodeSet, one, Snapshot, VmId}
use Rattle.placement_rules.proofs.Members.{member_within}

-- ---- one of what a function gives

Any-map : {X Y : Type 0} (P : Y → Type 0) (f : X → Y) (xs : List X) → Any (λ x. P (f x)) xs → Any P (map f xs)
Any-map P f xs w = (w.0, f w.1, omega (arith, w.2, length-map xs f), get_or-map f xs w.0 w.1 (f w.1) w.2 ∙ ap f w.3, w.4)

Any-of_map : {X Y : Type 0} (P : Y → Type 0) (f : X → Y) (xs : List X) → Any P (map f xs) → Any (λ x. P (f x)) xs
Any-of_map P f xs w =
    elim (slice_get_cases xs w.0).1 [
      | inl x ↦ (w.0, x.0, x.1, x.3, subst P (sym w.3 ∙ get_or-map f xs w.0 x.0 w.1 x.1 ∙ ap f x.3) w.4)
      | inr none ↦ absurd (omega (arith, w.2, length-map xs f, none.0))
    ]

-- ---- what is reached

module _ (p : Instance) (s : Snapshot) (vs : List VmId) (set : NodeSet) (all : list_all (λ x. nat_lt x.0 (machine_count p)) vs ≡ true) (reached : AreReached s vs set) where
  -- the machines are within a set of nodes where all nodes that they reach are in it
  pub inside_within : (other : Nodes) → ((n : ℕ) → n < node_count p → IsTrue (has_node set n) → IsTrue (other n)) ↔ AreWithin p s vs other
  inside_within other = (
    λ inside v n i j m x. inside n j (reached.there v n m x),
    λ within n j h. let w = reached.known n h in within w.0 n (member_within vs (machine_count p) w.0 all w.1) j w.1 w.2,
  )

  -- none is present where they reach no node
  pub none_absent : ((n : ℕ) → n < node_count p → has_node set n ≡ false) → AreAbsent p s vs
  none_absent none v n i j m = false_from_ne_true (s.present v (one n)) (λ x. both_ways (has_node set n) (none n j) (reached.there v n m x))

  -- one is where they reach a node
  some_present : (n : ℕ) → n < node_count p → IsTrue (has_node set n) → ¬ AreAbsent p s vs
  some_present n j h absent =
      let w = reached.known n h in
      both_ways (s.present w.0 (one n)) (absent w.0 n (member_within vs (machine_count p) w.0 all w.1) j w.1) w.2

  -- so they are grouped where one group has all that they reach
  pub some_grouped : (groups : List Nodes) (n : ℕ) → n < node_count p → IsTrue (has_node set n) → AreGrouped p s vs groups → Any (AreWithin p s vs) groups
  some_grouped groups n j h grouped = elim grouped [ inl absent ↦ absurd (some_present n j h absent) | inr group ↦ group ]

  -- by single nodes, where they reach one alone
  pub together : (n : ℕ) → n < node_count p → IsTrue (has_node set n) → ((m : ℕ) → m < node_count p → IsTrue (has_node set m) → IsTrue (one n m)) ↔ AreGrouped p s vs (map one (range_with_len 0 (node_count p)))
  together n j h = (
    λ inside. inr (Any-map (AreWithin p s vs) one (range_with_len 0 (node_count p)) (n, n, omega (arith, length-range_with_len 0 (node_count p)), get_or-range_with_len 0 (node_count p) n n j ∙ omega arith, (inside_within (one n)).0 inside)),
    λ grouped.
        let w = Any-of_map (AreWithin p s vs) one (range_with_len 0 (node_count p)) (some_grouped (map one (range_with_len 0 (node_count p))) n j h grouped) in
        let inside = (inside_within (one w.1)).1 w.4 in
        let here : n ≡ w.1 = eqb-true n w.1 (inside n j h) in
        subst (λ k. (m : ℕ) → m < node_count p → IsTrue (has_node set m) → IsTrue (one k m)) (sym here) inside,
  )

  -- by groups, where one of them has all nodes that they reach
  pub among : (groups : List NodeSet) (n : ℕ) → n < node_count p → IsTrue (has_node set n) → Any (λ g. (m : ℕ) → m < node_count p → IsTrue (has_node set m) → IsTrue (has_node g m)) groups ↔ AreGrouped p s vs (map has_node groups)
  among groups n j h = (
    λ w. inr (Any-map (AreWithin p s vs) has_node groups (w.0, w.1, w.2, w.3, (inside_within (has_node w.1)).0 w.4)),
    λ grouped.
        let w = Any-of_map (AreWithin p s vs) has_node groups (some_grouped (map has_node groups) n j h grouped) in
        (w.0, w.1, w.2, w.3, (inside_within (has_node w.1)).1 w.4),
  )

-- one group more does not have the property
pub no_group_more : (P : NodeSet → Type 0) (groups : List NodeSet) (k : ℕ) (here : NodeSet) → k < length groups → here ≡ get_or groups k here → ((i : ℕ) (g : NodeSet) → i < k → get_or groups i g ≡ g → ¬ P g) → ¬ P here → (i : ℕ) (g : NodeSet) → i < k + 1 → get_or groups i g ≡ g → ¬ P g
no_group_more P groups k here low is before not_here i g j e =
    elim (cases_eq i k) [
      | inl same ↦
          let read : get_or groups k g ≡ g = rw same at e in
          let both : here ≡ g = get_or_read groups k here low is g ∙ read in
          rw both at not_here
      | inr other ↦ before i g (omega arith) e
    ]
