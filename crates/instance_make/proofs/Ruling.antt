-- The constraints of a generated problem are added without a fault.
use Rattle.std.proofs.Common.{map}
use Rattle.base.proofs.Public.{◌≡◌, ℕ, zero, suc, ◌+◌, ◌*◌, ◌<◌, ◌≤◌, ◌==◌, ◌&&◌, ◌||◌, Bool, true, false, List, [], ◌∷◌, ◌++◌, length, nat_lt, None, refl, sym, ap, ◌∙◌, append_assoc, arith, and_parts, lt-ltb, ltb-true, nat_tests, length-append, length-map, filter-append, length-range_with_len, map-range_with_len_more, fold-append, filter, fold, list_all, list_any, range_with_len, each_passes, range_more}
use Rattle.instance_make.specs.Prelude.{are_below, are_machines, are_nodes, differ, emptied, from, generated, generated_constraints, generated_machine, generated_node, has_node, HasRoom, Instance, inventory_of, is_rule, IsWithin, machine_total, machines_to, max_nodes, no_nodes, node_total, NodeSet, others, rule_fault, set_of, spread_of, VmId, vms, with_more, with_node}
use Rattle.catalogue.specs.declared.constraint.Constraint.{Constraint}
use Rattle.catalogue.specs.declared.constraint.Constraint.TheVariants.{Ban, RunningCapacity, Online, Offline}
use Rattle.cluster.proofs.Public.{has_node-no_nodes, has_node-with_node}
use Rattle.catalogue.proofs.Public.{are_nodes-within}
use Rattle.remake.proofs.Public.{rule_not_refused}

-- ---- sets

-- what is put in stands in the set, beside what was there
fold-has_node : (ns : List ℕ) (start : NodeSet) (m : ℕ) → list_all (λ n. nat_lt n node_total) ns ≡ true → has_node (fold with_node start ns) m ≡ (list_any (λ n. m == n) ns || has_node start m)
fold-has_node [] start m small = refl
fold-has_node (n ∷ ns) start m small =
    let parts = and_parts (nat_lt n node_total) _ small in
    let below : n < max_nodes = omega (arith, ltb-true n node_total parts.0) in
    fold-has_node ns (with_node start n) m parts.1 ∙ ap (λ b. list_any (λ n. m == n) ns || b) (has_node-with_node start n m below) ∙ turned (list_any (λ n. m == n) ns) (m == n) (has_node start m)
  where
    turned : (a b c : Bool) → (a || (b || c)) ≡ ((b || a) || c)
    turned true true c = refl
    turned true false c = refl
    turned false true c = refl
    turned false false c = refl

pub has_node-set_of : (ns : List ℕ) (m : ℕ) → list_all (λ n. nat_lt n node_total) ns ≡ true → has_node (set_of ns) m ≡ list_any (λ n. m == n) ns
has_node-set_of ns m small = fold-has_node ns no_nodes m small ∙ ap (λ b. list_any (λ n. m == n) ns || b) (has_node-no_nodes m) ∙ alone (list_any (λ n. m == n) ns)
  where
    alone : (a : Bool) → (a || false) ≡ a
    alone true = refl
    alone false = refl

-- nodes below the count are no others
past : (ns : List ℕ) (m : ℕ) → list_all (λ n. nat_lt n node_total) ns ≡ true → node_total ≤ m → list_any (λ n. m == n) ns ≡ false
past [] m small le = refl
past (n ∷ ns) m small le =
    let parts = and_parts (nat_lt n node_total) _ small in
    let below : n < node_total = ltb-true n node_total parts.0 in
    let apart : (m == n) ≡ false = grind (arith, nat_tests) in
    rw (apart, past ns m parts.1 le) refl

nodes_listed : (p : Instance) → length p.nodes ≡ node_total → (ns : List ℕ) → list_all (λ n. nat_lt n node_total) ns ≡ true → are_nodes (inventory_of p) (set_of ns) ≡ true
nodes_listed p count ns small = sym (are_nodes-within (inventory_of p) (set_of ns) true ((λ _. within), (λ _. refl)))
  where
    within : IsWithin (set_of ns) (length p.nodes)
    within m le = has_node-set_of ns m small ∙ past ns m small (omega (arith, count, le))

-- ---- rules

no_fault : (p : Instance) (c : Constraint) → HasRoom p 1 → is_rule (inventory_of p) c ≡ true → rule_fault p c ≡ None
no_fault p c has all = rule_not_refused p c (omega (arith, has.room)) all

-- there is still room after one more constraint
pub room_after : (p : Instance) (count : ℕ) (c : Constraint) → HasRoom p (suc count) → HasRoom (record p { constraints = p.constraints ++ c ∷ [] }) count
room_after p count c has = record { nodes = has.nodes; machines = has.machines; room = omega (arith, has.room, length-append p.constraints (c ∷ [])) }

one_of : (p : Instance) (count : ℕ) → HasRoom p (suc count) → HasRoom p 1
one_of p count has = record { nodes = has.nodes; machines = has.machines; room = omega (arith, has.room) }

pub offline_not_refused : (p : Instance) (count k : ℕ) → HasRoom p (suc count) → k < node_total → rule_fault p (Offline (set_of (k ∷ []))) ≡ None
offline_not_refused p count k has lt =
    let below : nat_lt k node_total ≡ true = lt-ltb k node_total lt in
    no_fault p (Offline (set_of (k ∷ []))) (one_of p count has) (rw (nodes_listed p has.nodes (k ∷ []) (rw below refl)) refl)

others_small : list_all (λ k. list_all (λ n. nat_lt n node_total) (others k)) (range_with_len 0 node_total) ≡ true
others_small = refl

pub others_below : (k : ℕ) → k < node_total → list_all (λ n. nat_lt n node_total) (others k) ≡ true
others_below k lt = each_passes (λ k. list_all (λ n. nat_lt n node_total) (others k)) 0 node_total k others_small (omega arith) (omega arith)

pub online_not_refused : (p : Instance) (count k : ℕ) → HasRoom p (suc count) → k < node_total → rule_fault p (Online (set_of (others k))) ≡ None
online_not_refused p count k has lt = no_fault p (Online (set_of (others k))) (one_of p count has) (rw (nodes_listed p has.nodes (others k) (others_below k lt)) refl)

spreads_apart : list_all (λ g. are_below machine_total (vms (from (4 * g) 4)) && differ (vms (from (4 * g) 4))) (range_with_len 0 10) ≡ true
spreads_apart = refl

pub spread_not_refused : (p : Instance) (count g : ℕ) → HasRoom p (suc count) → g < 10 → rule_fault p (spread_of g) ≡ None
spread_not_refused p count g has lt =
    let fine = and_parts (are_below machine_total (vms (from (4 * g) 4))) _ (each_passes (λ g. are_below machine_total (vms (from (4 * g) 4)) && differ (vms (from (4 * g) 4))) 0 10 g spreads_apart (omega arith) (omega arith)) in
    let listed : are_machines (inventory_of p) (vms (from (4 * g) 4)) ≡ true = ap (λ n. are_below n (vms (from (4 * g) 4))) has.machines ∙ fine.0 in
    no_fault p (spread_of g) (one_of p count has) (rw (listed, fine.1) refl)

pub ban_not_refused : (p : Instance) (count : ℕ) → HasRoom p (suc count) → rule_fault p (Ban (vms (from 40 10)) (set_of (39 ∷ [])) false) ≡ None
ban_not_refused p count has =
    let listed : are_machines (inventory_of p) (vms (from 40 10)) ≡ true = ap (λ n. are_below n (vms (from 40 10))) has.machines in
    no_fault p (Ban (vms (from 40 10)) (set_of (39 ∷ [])) false) (one_of p count has) (rw (listed, nodes_listed p has.nodes (39 ∷ []) refl) refl)

pub capacity_not_refused : (p : Instance) (count : ℕ) → HasRoom p (suc count) → rule_fault p (RunningCapacity (set_of (from 10 10)) 60 true) ≡ None
capacity_not_refused p count has = no_fault p (RunningCapacity (set_of (from 10 10)) 60 true) (one_of p count has) (rw (nodes_listed p has.nodes (from 10 10) refl) refl)

-- ---- one more item at the end

ends_with : (a n m j : ℕ) → m ≡ suc n → a + n ≡ j → range_with_len a m ≡ range_with_len a n ++ j ∷ []
ends_with a zero m j more last = rw more (ap (λ (x : ℕ). x ∷ []) (omega arith))
ends_with a (suc n) m j more last = rw more (ap (λ (l : List ℕ). a ∷ l) (ends_with (a + 1) n (suc n) j refl (omega arith)))

range_ends : (a n : ℕ) → range_with_len a (n + 1) ≡ range_with_len a n ++ (a + n) ∷ []
range_ends a n = ends_with a n (n + 1) (a + n) (omega arith) refl

pub set_more : (a n : ℕ) (now new : NodeSet) → now ≡ set_of (from a n) → new ≡ with_node now (a + n) → new ≡ set_of (from a (n + 1))
set_more a n now new was step =
    step ∙ ap (λ (s : NodeSet). with_node s (a + n)) was ∙ sym (ap set_of (range_ends a n) ∙ fold-append with_node no_nodes (from a n) ((a + n) ∷ []))

pub others_more : (test : ℕ → Bool) (n : ℕ) (now new : NodeSet) → now ≡ set_of (filter test (from 0 n)) → new ≡ fold with_node now (filter test (n ∷ [])) → new ≡ set_of (filter test (from 0 (n + 1)))
others_more test n now new was step =
    step ∙ ap (λ (s : NodeSet). fold with_node s (filter test (n ∷ []))) was
    ∙ sym (ap set_of (ap (filter test) (range_more n) ∙ filter-append test (from 0 n) (n ∷ [])) ∙ fold-append with_node no_nodes (filter test (from 0 n)) (filter test (n ∷ [])))

pub vms_more : (a n : ℕ) (now : List VmId) → now ≡ vms (from a n) → now ++ record { 0 = a + n } ∷ [] ≡ vms (from a (n + 1))
vms_more a n now was = rw was (sym (map-range_with_len_more (λ i. record { 0 = i }) a n (a + n) refl))

-- ---- spreads

pub room_later : (p : Instance) (g : ℕ) → HasRoom p 10 → g < 10 → HasRoom (with_more p (map spread_of (from 0 g))) 1
room_later p g has lt = record {
  nodes = has.nodes;
  machines = has.machines;
  room = omega (arith, has.room, length-append p.constraints (map spread_of (from 0 g)), length-map (from 0 g) spread_of, length-range_with_len 0 g);
}

pub spreads_more : (p : Instance) (g : ℕ) (now new : Instance) → now ≡ with_more p (map spread_of (from 0 g)) → new ≡ with_more now (spread_of g ∷ []) → new ≡ with_more p (map spread_of (from 0 (g + 1)))
spreads_more p g now new was step =
    step ∙ ap (λ (q : Instance). with_more q (spread_of g ∷ [])) was
    ∙ ap (λ (cs : List Constraint). record p { constraints = cs }) (append_assoc p.constraints (map spread_of (from 0 g)) (spread_of g ∷ []) ∙ ap (λ (cs : List Constraint). p.constraints ++ cs) (sym (map-range_with_len_more spread_of 0 g g (omega arith))))

-- ---- the whole

-- a generated problem before its constraints
unfoldable pub bare : ℕ → Instance
bare seed = record {
  resources = (machines_to seed machine_total).resources;
  durations = (machines_to seed machine_total).durations;
  nodes = (machines_to seed machine_total).nodes;
  machines = (machines_to seed machine_total).machines;
  horizon = 60;
  constraints = [];
}

pub bare_room : (seed : ℕ) → HasRoom (bare seed) 2
unfolding bare machines_to
bare_room seed = record {
  nodes = length-map (from 0 node_total) generated_node ∙ length-range_with_len 0 node_total;
  machines = length-map (from 0 machine_total) (generated_machine seed) ∙ length-range_with_len 0 machine_total;
  room = omega arith;
}

pub fewer : (p : Instance) (m n : ℕ) → m ≤ n → HasRoom p n → HasRoom p m
fewer p m n le has = record { nodes = has.nodes; machines = has.machines; room = omega (arith, has.room, le) }

pub goals_room : (seed : ℕ) (cs : List Constraint) → length cs ≡ 2 → HasRoom (with_more (bare seed) cs) 12
unfolding bare
goals_room seed cs two = record { nodes = (bare_room seed).nodes; machines = (bare_room seed).machines; room = omega (arith, two) }

pub spreads_room : (p : Instance) (cs : List Constraint) → HasRoom p 12 → length cs ≡ 10 → HasRoom (with_more p cs) 2
spreads_room p cs has ten = record { nodes = has.nodes; machines = has.machines; room = omega (arith, has.room, ten, length-append p.constraints cs) }

pub whole : (seed : ℕ) → with_more (with_more (with_more (bare seed) (Offline (set_of (emptied seed ∷ [])) ∷ Online (set_of (others (emptied seed))) ∷ [])) (map spread_of (from 0 10)))
    (Ban (vms (from 40 10)) (set_of (39 ∷ [])) false ∷ RunningCapacity (set_of (from 10 10)) 60 true ∷ []) ≡ generated seed
unfolding bare machines_to generated generated_constraints
whole seed = refl
