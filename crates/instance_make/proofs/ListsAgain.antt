-- Printed lists of machines and of nodes are read again.
use Rattle.std.proofs.Common.{map}
use Rattle.base.proofs.Public.{◌≡◌, ℕ, zero, suc, ◌+◌, ◌<◌, ◌≤◌, ◌==◌, ◌≢◌, ◌&&◌, ◌||◌, Bool, true, false, not, List, [], ◌∷◌, ◌++◌, length, nat_le, nat_lt, Ok, refl, sym, ap, ap₂, ◌∙◌, append_assoc, arith, ⊎_elim, common_steps, and_parts, le-leb, lt-leb, lt-ltb, le-ltb, ltb-true, cases_lt, cases_eq, not-true, or-false, Decides-eqb, nat_tests, length-map, list_any-append, list_all-append, AllPass-from_list_all, filter, fold, list_all, range_with_len, same_either_way}
use Rattle.instance_make.specs.Prelude.{all_of, are_machines, are_nodes, differ, each, group_step, groups_from, groups_list, has_node, Inventory, is_member, IsInventory, item_path, list_of, machine_item, machine_name, machines_after, machines_list, max_groups, max_parts, no_nodes, node_item, node_name_at, node_set, nodes_in, nodes_list, NodeSet, part_step, parts_from, parts_list, VmId, with_node}
use Rattle.json_walk.proofs.Public.{items_list-items_of}
use Rattle.cluster.proofs.Public.{has_node-no_nodes, has_node-with_node, same_set}
use Rattle.catalogue.proofs.Public.{IsWithin-are_nodes}
use Rattle.instance_json.proofs.Public.{listed_machine-name, listed_node-name}
use Rattle.remake.proofs.Public.{All_at}
use Rattle.instance_make.proofs.Making.{each_made}

-- what passes for all items of a list passes for each
pass_at : {X : Type 0} (test : X → Bool) (all done : List X) (x : X) (rest : List X) → done ++ x ∷ rest ≡ all → list_all test all ≡ true → test x ≡ true
pass_at test all done x rest whole pass = All_at (λ x. test x ≡ true) all done x rest whole (AllPass-from_list_all test all pass)

-- ---- machines

middle : (a b c : Bool) → (a || (b || c)) ≡ false → (a ≡ false) × (b ≡ false)
middle true b c h = absurd (cc)
middle false true c h = absurd (cc)
middle false false c h = (refl, refl)

-- a machine of a list without repeats is not among those before
member_before : (xs : List VmId) (v : VmId) (ys : List VmId) → differ (xs ++ v ∷ ys) ≡ true → is_member xs v.0 ≡ false
member_before [] v ys all = refl
member_before (x ∷ xs) v ys all =
    let parts = and_parts (not (is_member (xs ++ v ∷ ys) x.0)) _ all in
    let none : (is_member xs x.0 || ((v.0 == x.0) || is_member ys x.0)) ≡ false = sym (list_any-append (λ y. y.0 == x.0) xs (v ∷ ys)) ∙ not-true _ parts.0 in
    let here : (x.0 == v.0) ≡ false = same_either_way x.0 v.0 ∙ (middle (is_member xs x.0) (v.0 == x.0) (is_member ys x.0) none).1 in
    rw (here, member_before xs v ys parts.1) refl

differ_left : (xs ys : List VmId) → differ (xs ++ ys) ≡ true → differ xs ≡ true
differ_left [] ys all = refl
differ_left (x ∷ xs) ys all =
    let parts = and_parts (not (is_member (xs ++ ys) x.0)) _ all in
    let none : (is_member xs x.0 || is_member ys x.0) ≡ false = sym (list_any-append (λ y. y.0 == x.0) xs ys) ∙ not-true _ parts.0 in
    rw (left (is_member xs x.0) (is_member ys x.0) none, differ_left xs ys parts.1) refl
  where
    left : (a b : Bool) → (a || b) ≡ false → a ≡ false
    left true b h = absurd (cc)
    left false b h = refl

-- ---- tests

by_test : {G : Type 0} (b : Bool) → (b ≡ true → G) → (b ≡ false → G) → G
by_test true pass fail = pass refl
by_test false pass fail = fail refl

or_true : (a : Bool) → (a || true) ≡ true
or_true true = refl
or_true false = refl

and_false : (a b : Bool) → (a && b && false) ≡ false
and_false true true = refl
and_false true false = refl
and_false false b = refl

nothing : (a m : ℕ) (h b : Bool) → b ≡ ((nat_le a m && nat_lt m (a + 0) && h) || b)
nothing a m h b = ⊎_elim
    (λ (lt : m < a). let none : nat_le a m ≡ false = lt-leb a m lt in rw none refl)
    (λ (le : a ≤ m). let none : nat_lt m (a + 0) ≡ false = le-ltb m (a + 0) (omega arith) in rw none (ap (λ c. c || b) (sym (past (nat_le a m) h))))
    (cases_lt m a)
  where
    past : (x h : Bool) → (x && false && h) ≡ false
    past true h = refl
    past false h = refl

one_more : (a count m : ℕ) (h b : Bool) → (m ≡ a → h ≡ true) → ((nat_le (a + 1) m && nat_lt m (a + 1 + count) && h) || ((m == a) || b)) ≡ ((nat_le a m && nat_lt m (a + suc count) && h) || b)
one_more a count m h b here = ⊎_elim
    (λ (same : m ≡ a).
    let e : (m == a) ≡ true = (Decides-eqb m a).1 same in
    let low : nat_le a m ≡ true = le-leb a m (omega arith) in
    let high : nat_lt m (a + suc count) ≡ true = lt-ltb m (a + suc count) (omega arith) in
    rw (e, low, high, here same) (or_true (nat_le (a + 1) m && nat_lt m (a + 1 + count) && true)))
    (λ (other : m ≢ a).
    let e : (m == a) ≡ false = grind (arith, nat_tests) in
    let low : nat_le (a + 1) m ≡ nat_le a m = grind (arith, nat_tests) in
    let end : a + 1 + count ≡ a + suc count = omega arith in
    rw (e, low, end) refl)
    (cases_eq m a)

no_more : (a count m : ℕ) (h b : Bool) → (m ≡ a → h ≡ false) → ((nat_le (a + 1) m && nat_lt m (a + 1 + count) && h) || b) ≡ ((nat_le a m && nat_lt m (a + suc count) && h) || b)
no_more a count m h b here = ⊎_elim
    (λ (same : m ≡ a). rw (here same, and_false (nat_le (a + 1) m) (nat_lt m (a + 1 + count)), and_false (nat_le a m) (nat_lt m (a + suc count))) refl)
    (λ (other : m ≢ a).
    let low : nat_le (a + 1) m ≡ nat_le a m = grind (arith, nat_tests) in
    let end : a + 1 + count ≡ a + suc count = omega arith in
    rw (low, end) refl)
    (cases_eq m a)

within : (m count : ℕ) (h : Bool) → (count ≤ m → h ≡ false) → ((nat_le 0 m && nat_lt m (0 + count) && h) || false) ≡ h
within m count h past = ⊎_elim
    (λ (lt : m < count).
    let low : nat_le 0 m ≡ true = le-leb 0 m (omega arith) in
    let high : nat_lt m (0 + count) ≡ true = lt-ltb m (0 + count) (omega arith) in
    rw (low, high) (or-false h))
    (λ (le : count ≤ m). rw (past le, and_false (nat_le 0 m) (nat_lt m (0 + count))) refl)
    (cases_lt m count)

module _ (k : Inventory) (sound : IsInventory k) where
  vm_once : (before vs : List VmId) (path : List ℕ) → are_machines k vs ≡ true → differ (before ++ vs) ≡ true → (done : List VmId) (v : VmId) (rest : List VmId) → done ++ v ∷ rest ≡ vs
      → machine_item k before path (length done) done (machine_name k v) ≡ Ok (done ++ v ∷ [])
  unfolding machine_item
  vm_once before vs path listed distinct done v rest whole =
      let there : v.0 < length k.machines = ltb-true v.0 (length k.machines) (pass_at (λ x. nat_lt x.0 (length k.machines)) vs done v rest whole listed) in
      let split : (before ++ done) ++ v ∷ rest ≡ before ++ vs = append_assoc before done (v ∷ rest) ∙ ap (λ (l : List VmId). before ++ l) whole in
      rw (listed_machine-name k v (item_path path (length done)) sound there, member_before (before ++ done) v rest (ap differ split ∙ distinct)) refl

  -- a list of machines that differ, also from those before
  pub vms_again : (before vs : List VmId) (path : List ℕ) → are_machines k vs ≡ true → differ (before ++ vs) ≡ true → machines_after k before (machines_list k vs) path ≡ Ok vs
  unfolding machines_after list_of machines_list
  vms_again before vs path listed distinct =
      rw (items_list-items_of (map (machine_name k) vs)) (each_made (machine_item k before path) (λ done. done) (machine_name k) vs (vm_once before vs path listed distinct))

  -- ---- parts

  all_of-append : (ps qs : List (List VmId)) → all_of (ps ++ qs) ≡ all_of ps ++ all_of qs
  all_of-append [] qs = refl
  all_of-append (vs ∷ ps) qs = ap (λ (l : List VmId). vs ++ l) (all_of-append ps qs) ∙ sym (append_assoc vs (all_of ps) (all_of qs))

  part_once : (parts : List (List VmId)) (path : List ℕ) → are_machines k (all_of parts) ≡ true → differ (all_of parts) ≡ true
      → (done : List (List VmId)) (part : List VmId) (rest : List (List VmId)) → done ++ part ∷ rest ≡ parts
      → part_step k path (length done) done (machines_list k part) ≡ Ok (done ++ part ∷ [])
  unfolding part_step
  part_once parts path listed distinct done part rest whole =
      let split : all_of done ++ (part ++ all_of rest) ≡ all_of parts = sym (all_of-append done (part ∷ rest)) ∙ ap all_of whole in
      let later = (and_parts (are_machines k (all_of done)) _ (sym (list_all-append (λ x. nat_lt x.0 (length k.machines)) (all_of done) (part ++ all_of rest)) ∙ ap (are_machines k) split ∙ listed)).1 in
      let here : are_machines k part ≡ true = (and_parts (are_machines k part) _ (sym (list_all-append (λ x. nat_lt x.0 (length k.machines)) part (all_of rest)) ∙ later)).0 in
      let apart : differ (all_of done ++ part) ≡ true = differ_left (all_of done ++ part) (all_of rest) (ap differ (append_assoc (all_of done) part (all_of rest) ∙ split) ∙ distinct) in
      rw (vms_again (all_of done) part (item_path path (length done)) here apart) refl

  pub parts_again : (parts : List (List VmId)) (path : List ℕ) → are_machines k (all_of parts) ≡ true → differ (all_of parts) ≡ true → nat_le (length parts) max_parts ≡ true
      → parts_from k (parts_list k parts) path ≡ Ok parts
  unfolding parts_from list_of parts_list
  parts_again parts path listed distinct few =
      rw (items_list-items_of (map (machines_list k) parts), length-map parts (machines_list k), few)
      (each_made (part_step k path) (λ done. done) (machines_list k) parts (part_once parts path listed distinct))

  -- ---- nodes

  node_once : (path : List ℕ) (place : ℕ) (so_far : NodeSet) (a : ℕ) → a < length k.nodes → has_node so_far a ≡ false → node_item k path place so_far (node_name_at k a) ≡ Ok (with_node so_far a)
  unfolding node_item
  node_once path place so_far a listed none = rw (listed_node-name k (record { 0 = a }) (item_path path place) sound listed, none) refl

  -- the nodes of a set from one on, where the set so far has none of them
  read_nodes : (s : NodeSet) (path : List ℕ) (count a place : ℕ) (so_far : NodeSet) → a + count ≤ length k.nodes → ((m : ℕ) → a ≤ m → has_node so_far m ≡ false)
      → each (node_item k path) place so_far (map (node_name_at k) (filter (has_node s) (range_with_len a count))) ≡ Ok (fold with_node so_far (filter (has_node s) (range_with_len a count)))
  unfolding each
  read_nodes s path zero a place so_far within none = refl
  read_nodes s path (suc count) a place so_far within none = by_test (has_node s a)
      (λ is.
      rw is (rw (node_once path place so_far a (omega arith) (none a (omega arith)))
      (read_nodes s path count (a + 1) (suc place) (with_node so_far a) (omega arith)
      (λ m le.
      let other : (m == a) ≡ false = grind (arith, common_steps) in
      has_node-with_node so_far a m (omega (arith, sound.few_nodes)) ∙ ap₂ (λ b c. b || c) other (none m (omega arith))))))
      (λ is. rw is (read_nodes s path count (a + 1) place so_far (omega arith) (λ m le. none m (omega arith))))

  -- a set of nodes that are put in one by one has these, and those that it had
  has_node-fold : (s : NodeSet) (count a : ℕ) (start : NodeSet) (m : ℕ) → a + count ≤ length k.nodes
      → has_node (fold with_node start (filter (has_node s) (range_with_len a count))) m ≡ ((nat_le a m && nat_lt m (a + count) && has_node s m) || has_node start m)
  has_node-fold s zero a start m within = nothing a m (has_node s m) (has_node start m)
  has_node-fold s (suc count) a start m within = by_test (has_node s a)
      (λ is. rw is (has_node-fold s count (a + 1) (with_node start a) m (omega arith) ∙ ap (λ b. (nat_le (a + 1) m && nat_lt m (a + 1 + count) && has_node s m) || b) (has_node-with_node start a m (omega (arith, sound.few_nodes)))
      ∙ one_more a count m (has_node s m) (has_node start m) (λ same. ap (has_node s) same ∙ is)))
      (λ is. rw is (has_node-fold s count (a + 1) start m (omega arith) ∙ no_more a count m (has_node s m) (has_node start m) (λ same. ap (has_node s) same ∙ is)))

  -- the nodes of a set, put in again, are the set
  same_nodes : (s : NodeSet) → are_nodes k s ≡ true → fold with_node no_nodes (nodes_in k s) ≡ s
  unfolding nodes_in
  same_nodes s listed = same_set (fold with_node no_nodes (filter (has_node s) (range_with_len 0 (length k.nodes)))) s
      (λ m. has_node-fold s (length k.nodes) 0 no_nodes m (omega arith) ∙ ap (λ b. (nat_le 0 m && nat_lt m (0 + length k.nodes) && has_node s m) || b) (has_node-no_nodes m)
      ∙ within m (length k.nodes) (has_node s m) (λ le. IsWithin-are_nodes k s listed m le))

  pub node_set_again : (s : NodeSet) (path : List ℕ) → are_nodes k s ≡ true → node_set k (nodes_list k s) path ≡ Ok s
  unfolding node_set list_of nodes_list nodes_in
  node_set_again s path listed =
      rw (items_list-items_of (map (node_name_at k) (nodes_in k s))) (read_nodes s path (length k.nodes) 0 0 no_nodes (omega arith) (λ m le. has_node-no_nodes m) ∙ ap Ok (same_nodes s listed))

  -- ---- groups

  group_once : (groups : List NodeSet) (path : List ℕ) → list_all (are_nodes k) groups ≡ true → (done : List NodeSet) (s : NodeSet) (rest : List NodeSet) → done ++ s ∷ rest ≡ groups
      → group_step k path (length done) done (nodes_list k s) ≡ Ok (done ++ s ∷ [])
  unfolding group_step
  group_once groups path listed done s rest whole = rw (node_set_again s (item_path path (length done)) (pass_at (are_nodes k) groups done s rest whole listed)) refl

  pub groups_again : (groups : List NodeSet) (path : List ℕ) → list_all (are_nodes k) groups ≡ true → nat_lt 0 (length groups) ≡ true → nat_le (length groups) max_groups ≡ true
      → groups_from k (groups_list k groups) path ≡ Ok groups
  unfolding groups_from list_of groups_list
  groups_again groups path listed some few =
      rw (items_list-items_of (map (nodes_list k) groups), length-map groups (nodes_list k), some, few)
      (each_made (group_step k path) (λ done. done) (nodes_list k) groups (group_once groups path listed))
