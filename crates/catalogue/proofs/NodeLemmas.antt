-- Which sets of nodes are listed.
use Rattle.std.proofs.Common.{slice_index_or, IsTrue, ◌↔◌}
use Rattle.base.proofs.Public.{◌≡◌, ℕ, zero, suc, ◌<◌, ◌≤◌, ◌-◌, ◌+◌, not, ⊎_elim, ◌∙◌, ap, sym, true≢false, refl, ◌&&◌, Bool, true, false, length, arith, list_all, range_with_len, cases_lt, list_all_at, length-range_with_len, get_or-range_with_len}
use Rattle.catalogue.specs.Prelude.{are_nodes, has_node, Inventory, IsWithin, max_nodes, NodeSet}
use Rattle.cluster.proofs.Public.{has_node-past}

-- a set of listed nodes has none past them
pub IsWithin-are_nodes : (k : Inventory) (s : NodeSet) → are_nodes k s ≡ true → IsWithin s (length k.nodes)
IsWithin-are_nodes k s listed n past = ⊎_elim below (has_node-past s n) (cases_lt n max_nodes)
  where
    below : n < max_nodes → has_node s n ≡ false
    below h = by (has_node s n) refl
      where
        by : (b : Bool) → has_node s n ≡ b → has_node s n ≡ false
        by false is = is
        by true is =
            let count = max_nodes - length k.nodes in
            let place = n - length k.nodes in
            let within : place < count = omega arith in
            let sum : length k.nodes + place ≡ n = omega arith in
            let at : slice_index_or (range_with_len (length k.nodes) count) place 0 ≡ n = get_or-range_with_len (length k.nodes) count place 0 within ∙ sum in
            let inside : place < length (range_with_len (length k.nodes) count) = rw length-range_with_len within in
            let none = list_all_at (λ m. not (has_node s m)) (range_with_len (length k.nodes) count) place 0 inside (ap (λ m. not (has_node s m)) at ∙ ap not is) in
            absurd (true≢false (sym listed ∙ none))

-- a set of nodes below a count has none of those from it on
none_from : (s : NodeSet) (a count : ℕ) → IsWithin s a → list_all (λ n. not (has_node s n)) (range_with_len a count) ≡ true
none_from s a zero within = refl
none_from s a (suc count) within =
    ap (λ b. not b && list_all (λ n. not (has_node s n)) (range_with_len (a + 1) count)) (within a (omega arith))
    ∙ none_from s (a + 1) count (λ m h. within m (omega arith))

-- a test whether a set is within the nodes tells whether its nodes are listed
pub are_nodes-within : (k : Inventory) (s : NodeSet) (b : Bool) → IsTrue b ↔ IsWithin s (length k.nodes) → b ≡ are_nodes k s
are_nodes-within k s true test = sym (none_from s (length k.nodes) (max_nodes - length k.nodes) (test.0 refl))
are_nodes-within k s false test = by (are_nodes k s) refl
  where
    by : (b : Bool) → are_nodes k s ≡ b → false ≡ are_nodes k s
    by false is = sym is
    by true is = absurd (true≢false (sym (test.1 (IsWithin-are_nodes k s is))))
