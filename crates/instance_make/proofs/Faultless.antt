-- A generated cluster is built up without a fault.
use Rattle.std.proofs.Common.{◌^◌, map, codes, if◌then◌else◌}
use Rattle.std.specs.Fmt.{digits}
use Rattle.base.proofs.Public.{◌≡◌, ℕ, zero, suc, ◌+◌, ◌<◌, ◌≤◌, Bool, true, false, not, List, [], ◌∷◌, ◌++◌, length, nat_le, Option, Some, None, is_none, refl, ap, ◌∙◌, arith, le-leb, lt-leb, false_from_ne_true, decimal_injective, length-map, length-range_with_len, map-range_with_len_more, bytes_eq-Decides, list_all, list_any, range_with_len, decimal, bytes_eq, each_passes}
use Rattle.instance_make.specs.Prelude.{BadHost, cpu_of, from, generated_machine, generated_node, host_is_online, host_of, is_name, is_online, is_taken, machine_fault, machine_fits, machine_text, machine_total, machines_to, max_amount, mem_of, names_of_machines, names_of_nodes, node_fault, node_text, node_total, nodes_to}
use Rattle.cluster.specs.declared.inventory.AddFault.TheVariants.{TooMany, Twice, TooGreat}
use Rattle.remake.proofs.Public.{position_none}

-- ---- names

all_node_names : list_all (λ n. is_name (node_text n)) (range_with_len 0 node_total) ≡ true
unfolding is_name digits
all_node_names = refl

all_machine_names : list_all (λ i. is_name (machine_text i)) (range_with_len 0 machine_total) ≡ true
unfolding is_name digits
all_machine_names = refl

pub node_named : (n : ℕ) → n < node_total → is_name (codes "n" ++ decimal n) ≡ true
node_named n lt = each_passes (λ n. is_name (node_text n)) 0 node_total n all_node_names (omega arith) (omega arith)

pub machine_named : (i : ℕ) → i < machine_total → is_name (codes "v" ++ decimal i) ≡ true
machine_named i lt = each_passes (λ i. is_name (machine_text i)) 0 machine_total i all_machine_names (omega arith) (omega arith)

pub ruleset node_name_rules = (node_named)

pub ruleset machine_name_rules = (machine_named)

-- ---- nodes

no_node_faults : list_all (λ n. is_none (node_fault (nodes_to n) (generated_node n))) (range_with_len 0 node_total) ≡ true
unfolding nodes_to generated_node digits
no_node_faults = refl

is_none-None : {A : Type 0} (o : Option A) → is_none o ≡ true → o ≡ None
is_none-None None h = refl
is_none-None (Some d) h = absurd (cc)

pub node_not_refused : (n : ℕ) → n < node_total → node_fault (nodes_to n) (generated_node n) ≡ None
node_not_refused n lt = is_none-None _ (each_passes (λ n. is_none (node_fault (nodes_to n) (generated_node n))) 0 node_total n no_node_faults (omega arith) (omega arith))

pub nodes_more : (n : ℕ) → record (nodes_to n) { nodes = (nodes_to n).nodes ++ generated_node n ∷ [] } ≡ nodes_to (n + 1)
unfolding nodes_to
nodes_more n = rw (map-range_with_len_more generated_node 0 n n (omega arith)) refl

pub ruleset node_rules = (node_not_refused, nodes_more)

-- ---- machines

all_online : list_all (λ n. is_online (map generated_node (from 0 node_total)) n) (range_with_len 0 node_total) ≡ true
unfolding generated_node
all_online = refl

pub cpu_small : (seed i : ℕ) → cpu_of seed i ≤ 4
unfolding cpu_of
cpu_small seed i = omega arith

pub mem_small : (seed i : ℕ) → mem_of seed i ≤ 8
unfolding mem_of
mem_small seed i = omega arith

-- the names of the machines and of the nodes
machine_names : (seed : ℕ) (is : List ℕ) → names_of_machines (map (generated_machine seed) is) ≡ map machine_text is
unfolding generated_machine
machine_names seed [] = refl
machine_names seed (i ∷ is) = ap (λ (rest : List (List ℕ)). machine_text i ∷ rest) (machine_names seed is)

-- a machine's name is no node's, and no other machine's
no_node : (i : ℕ) (ns : List ℕ) → list_any (bytes_eq (machine_text i)) (names_of_nodes (map generated_node ns)) ≡ false
unfolding generated_node
no_node i [] = refl
no_node i (n ∷ ns) = no_node i ns

no_other : (i a count : ℕ) → i < 2 ^ 64 → a + count ≤ i → list_any (bytes_eq (machine_text i)) (map machine_text (range_with_len a count)) ≡ false
no_other i a zero small within = refl
no_other i a (suc count) small within =
    let apart : bytes_eq (decimal i) (decimal a) ≡ false = false_from_ne_true _ (λ same. absurd (differ (decimal_injective i a small (omega arith) ((bytes_eq-Decides (decimal i) (decimal a)).0 same)))) in
    rw apart (no_other i (a + 1) count small (omega arith))
  where
    differ : i ≡ a → ⊥
    differ same = omega arith

none_to_refuse : (full taken offline small : Bool) → full ≡ false → taken ≡ false → offline ≡ false → small ≡ true
    → (if full then Some TooMany else if taken then Some Twice else if offline then Some BadHost else if small then None else Some TooGreat) ≡ None
none_to_refuse full taken offline small a b c d = rw (a, b, c, d) refl

machine_free : (seed i : ℕ) → i < machine_total → is_taken (machines_to seed i) (machine_text i) ≡ false
unfolding machines_to
machine_free seed i lt =
    let machines = ap (list_any (bytes_eq (machine_text i))) (machine_names seed (from 0 i)) ∙ no_other i 0 i (omega arith) (omega arith) in
    rw (position_none (bytes_eq (machine_text i)) (names_of_machines (map (generated_machine seed) (from 0 i))) machines, position_none (bytes_eq (machine_text i)) (names_of_nodes (map generated_node (from 0 node_total))) (no_node i (from 0 node_total))) refl

machine_hosted : (seed i : ℕ) → not (host_is_online (machines_to seed i).nodes (generated_machine seed i).state) ≡ false
unfolding machines_to generated_machine
machine_hosted seed i = ap not (each_passes (λ n. is_online (map generated_node (from 0 node_total)) n) 0 node_total (host_of i) all_online (omega arith) (omega arith))

machine_small : (seed i : ℕ) → machine_fits (length (machines_to seed i).resources) (generated_machine seed i) ≡ true
unfolding machines_to generated_machine
machine_small seed i =
    let cpu : nat_le (cpu_of seed i) max_amount ≡ true = le-leb (cpu_of seed i) max_amount (omega (arith, cpu_small seed i)) in
    let mem : nat_le (mem_of seed i) max_amount ≡ true = le-leb (mem_of seed i) max_amount (omega (arith, mem_small seed i)) in
    rw (cpu, mem) refl

machine_room : (seed i : ℕ) → i < machine_total → nat_le 4096 (length (machines_to seed i).machines) ≡ false
unfolding machines_to
machine_room seed i lt = lt-leb 4096 _ (omega (arith, length-map (from 0 i) (generated_machine seed), length-range_with_len 0 i))

name_of_machine : (seed i : ℕ) → (generated_machine seed i).name ≡ machine_text i
unfolding generated_machine
name_of_machine seed i = refl

pub machine_not_refused : (seed i : ℕ) → i < machine_total → machine_fault (machines_to seed i) (generated_machine seed i) ≡ None
machine_not_refused seed i lt = none_to_refuse _ _ _ _
    (machine_room seed i lt)
    (ap (is_taken (machines_to seed i)) (name_of_machine seed i) ∙ machine_free seed i lt)
    (machine_hosted seed i)
    (machine_small seed i)

pub machines_more : (seed n : ℕ) → record (machines_to seed n) { machines = (machines_to seed n).machines ++ generated_machine seed n ∷ [] } ≡ machines_to seed (n + 1)
unfolding machines_to
machines_more seed n = rw (map-range_with_len_more (generated_machine seed) 0 n n (omega arith)) refl

pub no_machines : (seed : ℕ) → nodes_to node_total ≡ machines_to seed 0
unfolding nodes_to machines_to
no_machines seed = refl

pub ruleset machine_rules = (machine_not_refused, machines_more)

pub ruleset start_rules = (no_machines)
