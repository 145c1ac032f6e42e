-- The text of a generated problem is short: first what each part of a problem has at most, whose numbers and names are small.
use Rattle.std.proofs.Common.{map, slice_index_or, option_map, IfSome, lit≤, codes}
use Rattle.base.proofs.Public.{◌≡◌, ℕ, zero, suc, ◌+◌, ◌*◌, ◌<◌, ◌≤◌, Bool, true, false, List, [], ◌∷◌, ◌++◌, length, replicate, slice_index, Option, Some, None, refl, ap, arith, length-append, length-map, length-range_with_len, All-append, All-cons, All-head, All-map, All-nil, All-replicate, All-tail, All, filter, range_with_len}
use Rattle.instance_make.specs.Prelude.{Allocate, amounts, amounts_data, Boot, both_object, constraint_data, constraint_word, cpu_of, duration_data, duration_of_kind, Duration, durations_data, emptied, flagged_machines_object, Forge, from, generated, generated_constraints, generated_duration, generated_machine, generated_node, generated_resources, GeneratedTextIsShort, has_node, host_data, Instance, instance_data, instance_text, Inventory, inventory_of, Kill, Kind, kind_number, kind_word, kind_words, kinds, Machine, machine_data, machine_name, machine_total, machines_list, mem_of, Migrate, names_of_machines, names_of_nodes, no_durations, node_count_object, node_data, node_name_at, node_total, NodeBoot, nodes_in, nodes_list, nodes_object, NodeSet, NodeShutdown, others, own_data, Resume, set_of, Shutdown, spread_of, State, state_word, Suspend, unit_members, VmId, vms}
use Rattle.cluster.specs.declared.nodes.Node.{Node}
use Rattle.cluster.specs.declared.states.State.TheVariants as states
use Rattle.catalogue.specs.declared.constraint.Constraint.{Constraint}
use Rattle.catalogue.specs.declared.constraint.Constraint.TheVariants.{Ban, Offline, Online, RunningCapacity, Spread}
use Rattle.instance_json.specs.Prelude.{constraint_words, state_words}
use Rattle.serde_json.specs.Data.{string, number, unsigned}
use Rattle.serde_json.specs.Written.{compact_text}
use Rattle.instance_make.proofs.Faultless.{cpu_small, mem_small}
use Rattle.instance_make.proofs.Lengths.{AreShort, IsShort, short-boolean, short-decimal, short-end, short-few, short-member, short-members_by, short-number, short-object, short-put_if, short-string, shorter}
use Rattle.instance_make.proofs.Problem.{horizon_at}

-- ---- what is small

pub record IsSmallDuration (d : Duration) : Type 0 where
  pub base : d.base < 1000
  pub per : d.per < 1000

pub record IsSmallNode (n : Node) : Type 0 where
  pub name : length n.name ≤ 4
  pub capacity : (r : ℕ) → slice_index n.capacity r < 1000
  pub own : n.own ≡ no_durations

pub record IsSmallMachine (m : Machine) : Type 0 where
  pub name : length m.name ≤ 4
  pub usage : (r : ℕ) → slice_index m.usage r < 1000
  pub own : m.own ≡ no_durations

pub record IsSmall (k : Inventory) : Type 0 where
  pub resources : length k.resources ≡ 2
  pub resource_names : All (λ name. length name ≤ 16) k.resources
  pub durations : All IsSmallDuration k.durations
  pub nodes : All IsSmallNode k.nodes
  pub few_nodes : length k.nodes ≤ 40
  pub machines : All IsSmallMachine k.machines
  pub few_machines : length k.machines ≤ 200

-- ---- lists

-- what is so of each item, and of what stands for none, is so at each place
at_each : {X : Type 0} (P : X → Type 0) (d : X) → P d → (xs : List X) → All P xs → (i : ℕ) → P (slice_index_or xs i d)
at_each P d none [] all i = none
at_each P d none (x ∷ xs) all zero = All-head P x xs all
at_each P d none (x ∷ xs) all (suc i) = at_each P d none xs (All-tail P x xs all) i

all_of : {X : Type 0} (P : X → Type 0) (xs : List X) → ((x : X) → P x) → All P xs
all_of P [] each = All-nil P
all_of P (x ∷ xs) each = All-cons P x xs (each x) (all_of P xs each)

each_of : {X : Type 0} (P : X → Type 0) (f : ℕ → X) (first count : ℕ) → ((i : ℕ) → i < first + count → P (f i)) → All P (map f (range_with_len first count))
each_of P f first zero each = All-nil P
each_of P f first (suc count) each = All-cons P (f first) (map f (range_with_len (first + 1) count)) (each first (omega arith)) (each_of P f (first + 1) count (λ i below. each i (omega arith)))

one_passes : (test : ℕ → Bool) (first count : ℕ) (b : Bool) → test first ≡ b → length (filter test (range_with_len (first + 1) count)) ≤ count → length (filter test (range_with_len first (suc count))) ≤ suc count
one_passes test first count true pass rest = rw pass (omega arith)
one_passes test first count false pass rest = rw pass (omega arith)

few_pass : (test : ℕ → Bool) (first count : ℕ) → length (filter test (range_with_len first count)) ≤ count
few_pass test first zero = omega arith
few_pass test first (suc count) = one_passes test first count (test first) refl (few_pass test (first + 1) count)

-- ---- words

kind_length : (kind : Kind) → length (kind_word kind) ≤ 16
unfolding kind_word kind_words
kind_length Forge = lit≤ tt
kind_length Boot = lit≤ tt
kind_length Shutdown = lit≤ tt
kind_length Suspend = lit≤ tt
kind_length Resume = lit≤ tt
kind_length Migrate = lit≤ tt
kind_length Allocate = lit≤ tt
kind_length Kill = lit≤ tt
kind_length NodeBoot = lit≤ tt
kind_length NodeShutdown = lit≤ tt

state_length : (s : State) → length (state_word s) ≤ 16
unfolding state_word state_words
state_length states.Init = lit≤ tt
state_length states.Ready = lit≤ tt
state_length (states.Running host) = lit≤ tt
state_length (states.Sleeping host) = lit≤ tt
state_length states.Gone = lit≤ tt

-- ---- what a problem's parts have at most

own_none : (k : Inventory) (own : List (Option Duration)) → own ≡ no_durations → IfSome (own_data k.resources own) (IsShort 0)
own_none k own is = rw is tt

module _ (k : Inventory) (small : IsSmall k) where
  resource_length : (r : ℕ) → length (slice_index_or k.resources r []) ≤ 16
  resource_length r = at_each (λ name. length name ≤ 16) [] (lit≤ tt) k.resources small.resource_names r

  short_machine_name : (v : VmId) → IsShort 26 (machine_name k v)
  short_machine_name v =
      let names : All (λ name. length name ≤ 4) (names_of_machines k.machines) = All-map (λ name. length name ≤ 4) (λ m. m.name) k.machines (λ i d lt. (small.machines i d lt).name) in
      short-string 4 _ (at_each (λ name. length name ≤ 4) [] (lit≤ tt) (names_of_machines k.machines) names v.0)

  short_node_name : (n : ℕ) → IsShort 26 (node_name_at k n)
  short_node_name n =
      let names : All (λ name. length name ≤ 4) (names_of_nodes k.nodes) = All-map (λ name. length name ≤ 4) (λ x. x.name) k.nodes (λ i d lt. (small.nodes i d lt).name) in
      short-string 4 _ (at_each (λ name. length name ≤ 4) [] (lit≤ tt) (names_of_nodes k.nodes) names n)

  short_amounts : (amounts : List ℕ) → ((r : ℕ) → slice_index amounts r < 1000) → IsShort 208 (amounts_data k.resources amounts)
  unfolding amounts_data
  short_amounts amounts few =
      let each = short-members_by 3 (λ r. slice_index_or k.resources r []) (λ r. Some (number (unsigned (slice_index amounts r)))) (range_with_len 0 (length k.resources)) resource_length (λ r. short-number (slice_index amounts r) (few r)) in
      let whole = short-object _ _ each in
      record { fits = omega (arith, whole.fits, length-range_with_len 0 (length k.resources), small.resources) }

  short_unit : (per : ℕ) → per < 1000 → (r : Option ℕ) → AreShort 302 (unit_members k.resources per r)
  short_unit per few None = record { fits = omega arith }
  short_unit per few (Some r) = short-member 3 199 (codes "per") _ _ (lit≤ tt) (short-number per few) (short-member 98 1 (codes "resource") _ _ (lit≤ tt) (short-string 16 _ (resource_length r)) short-end)

  short_duration : (d : Duration) → IsSmallDuration d → IsShort 406 (duration_data k.resources d)
  unfolding duration_data
  short_duration d is = short-object 405 _ (short-member 3 302 (codes "base") _ _ (lit≤ tt) (short-number d.base is.base) (short_unit d.per is.per d.resource))

  if_short : (o : Option Duration) → IfSome o IsSmallDuration → IfSome (option_map (duration_data k.resources) o) (IsShort 406)
  if_short None is = tt
  if_short (Some d) is = short_duration d is

  short_durations : IsShort 5062 (durations_data k.resources (map Some k.durations))
  unfolding durations_data kinds
  short_durations =
      let given : All (λ o. IfSome o IsSmallDuration) (map Some k.durations) = All-map (λ o. IfSome o IsSmallDuration) Some k.durations small.durations in
      short-object 5061 _ (short-members_by 406 kind_word (duration_of_kind k.resources (map Some k.durations)) kinds kind_length
      (λ kind. if_short _ (at_each (λ o. IfSome o IsSmallDuration) None tt (map Some k.durations) given (kind_number kind))))

  short_node : (n : Node) → IsSmallNode n → IsShort 641 (node_data k n)
  unfolding node_data
  short_node n is =
      short-object 640 _ (short-put_if 0 540 (codes "durations") _ _ (lit≤ tt) (own_none k n.own is.own)
      (short-member 208 232 (codes "capacity") _ _ (lit≤ tt) (short_amounts n.capacity is.capacity)
      (short-member 26 106 (codes "name") _ _ (lit≤ tt) (short-string 4 n.name is.name)
      (short-member 5 1 (codes "online") _ _ (lit≤ tt) (short-boolean n.online) short-end))))

  short_host : (s : State) → IfSome (host_data k s) (IsShort 26)
  short_host states.Init = tt
  short_host states.Ready = tt
  short_host (states.Running host) = short_node_name host.0
  short_host (states.Sleeping host) = short_node_name host.0
  short_host states.Gone = tt

  short_machine : (m : Machine) → IsSmallMachine m → IsShort 860 (machine_data k m)
  unfolding machine_data
  short_machine m is =
      short-object 859 _ (short-put_if 0 759 (codes "durations") _ _ (lit≤ tt) (own_none k m.own is.own)
      (short-put_if 26 633 (codes "node") _ _ (lit≤ tt) (short_host m.state)
      (short-member 26 507 (codes "name") _ _ (lit≤ tt) (short-string 4 m.name is.name)
      (short-member 98 309 (codes "state") _ _ (lit≤ tt) (short-string 16 _ (state_length m.state))
      (short-member 208 1 (codes "use") _ _ (lit≤ tt) (short_amounts m.usage is.usage) short-end)))))

  -- ---- constraints

  short_machines : (vs : List VmId) → length vs ≤ 10 → IsShort 272 (machines_list k vs)
  unfolding machines_list
  short_machines vs few = short-few 26 10 (machine_name k) vs few (all_of (λ v. IsShort 26 (machine_name k v)) vs short_machine_name)

  few_in : (s : NodeSet) → length (nodes_in k s) ≤ 40
  unfolding nodes_in
  few_in s = omega (arith, few_pass (has_node s) 0 (length k.nodes), small.few_nodes)

  short_nodes : (s : NodeSet) → IsShort 1082 (nodes_list k s)
  unfolding nodes_list
  short_nodes s = short-few 26 40 (node_name_at k) (nodes_in k s) (few_in s) (all_of (λ n. IsShort 26 (node_name_at k n)) (nodes_in k s) short_node_name)

  short_of_nodes : (word : List ℕ) → length word ≤ 16 → (s : NodeSet) → IsShort 2000 (nodes_object k word s)
  unfolding nodes_object
  short_of_nodes word few s =
      shorter 1382 2000 _ (lit≤ tt) (short-object 1381 _ (short-member 98 1183 (codes "kind") _ _ (lit≤ tt) (short-string 16 word few)
      (short-member 1082 1 (codes "nodes") _ _ (lit≤ tt) (short_nodes s) short-end)))

  short_flagged : (word : List ℕ) → length word ≤ 16 → (vs : List VmId) → length vs ≤ 10 → (b : Bool) → IsShort 2000 (flagged_machines_object k word vs b)
  unfolding flagged_machines_object
  short_flagged word few vs some b =
      shorter 677 2000 _ (lit≤ tt) (short-object 676 _ (short-member 5 571 (codes "continuous") _ _ (lit≤ tt) (short-boolean b)
      (short-member 98 373 (codes "kind") _ _ (lit≤ tt) (short-string 16 word few)
      (short-member 272 1 (codes "machines") _ _ (lit≤ tt) (short_machines vs some) short-end))))

  short_both : (word : List ℕ) → length word ≤ 16 → (vs : List VmId) → length vs ≤ 10 → (s : NodeSet) (b : Bool) → IsShort 2000 (both_object k word vs s b)
  unfolding both_object
  short_both word few vs some s b =
      shorter 1859 2000 _ (lit≤ tt) (short-object 1858 _ (short-member 5 1753 (codes "continuous") _ _ (lit≤ tt) (short-boolean b)
      (short-member 98 1555 (codes "kind") _ _ (lit≤ tt) (short-string 16 word few)
      (short-member 272 1183 (codes "machines") _ _ (lit≤ tt) (short_machines vs some)
      (short-member 1082 1 (codes "nodes") _ _ (lit≤ tt) (short_nodes s) short-end)))))

  short_node_count : (word : List ℕ) → length word ≤ 16 → (s : NodeSet) (amount : ℕ) → amount < 1000 → (b : Bool) → IsShort 2000 (node_count_object k word s amount b)
  unfolding node_count_object
  short_node_count word few s amount low b =
      shorter 1590 2000 _ (lit≤ tt) (short-object 1589 _ (short-member 3 1486 (codes "amount") _ _ (lit≤ tt) (short-number amount low)
      (short-member 5 1381 (codes "continuous") _ _ (lit≤ tt) (short-boolean b)
      (short-member 98 1183 (codes "kind") _ _ (lit≤ tt) (short-string 16 word few)
      (short-member 1082 1 (codes "nodes") _ _ (lit≤ tt) (short_nodes s) short-end)))))

  -- ---- those of a generated problem

  short_offline : (s : NodeSet) → IsShort 2000 (constraint_data k (Offline s))
  unfolding constraint_data constraint_word constraint_words
  short_offline s = short_of_nodes (codes "offline") (lit≤ tt) s

  short_online : (s : NodeSet) → IsShort 2000 (constraint_data k (Online s))
  unfolding constraint_data constraint_word constraint_words
  short_online s = short_of_nodes (codes "online") (lit≤ tt) s

  short_spread : (vs : List VmId) → length vs ≤ 10 → IsShort 2000 (constraint_data k (Spread vs true))
  unfolding constraint_data constraint_word constraint_words
  short_spread vs few = short_flagged (codes "spread") (lit≤ tt) vs few true

  short_ban : (vs : List VmId) → length vs ≤ 10 → (s : NodeSet) → IsShort 2000 (constraint_data k (Ban vs s false))
  unfolding constraint_data constraint_word constraint_words
  short_ban vs few s = short_both (codes "ban") (lit≤ tt) vs few s false

  short_running : (s : NodeSet) → IsShort 2000 (constraint_data k (RunningCapacity s 60 true))
  unfolding constraint_data constraint_word constraint_words
  short_running s = short_node_count (codes "runningCapacity") (lit≤ tt) s 60 (omega arith) true

  vms_count : (is : List ℕ) → length (vms is) ≡ length is
  vms_count [] = refl
  vms_count (i ∷ is) = ap suc (vms_count is)

  few_vms : (first count : ℕ) → count ≤ 10 → length (vms (from first count)) ≤ 10
  few_vms first count few = omega (arith, vms_count (from first count), length-range_with_len first count, few)

  short_rules : (offline online last ten : NodeSet) (banned : List VmId) → length banned ≤ 10
      → All (λ c. IsShort 2000 (constraint_data k c)) (Offline offline ∷ Online online ∷ (map spread_of (from 0 10) ++ Ban banned last false ∷ RunningCapacity ten 60 true ∷ []))
  short_rules offline online last ten banned few =
      let P : Constraint → Type 0 = λ c. IsShort 2000 (constraint_data k c) in
      let limits : List Constraint = Ban banned last false ∷ RunningCapacity ten 60 true ∷ [] in
      let apart : All P (map spread_of (from 0 10)) = All-map P spread_of (from 0 10) (all_of (λ g. P (spread_of g)) (from 0 10) (λ g. short_spread (vms (from (4 * g) 4)) (few_vms (4 * g) 4 (lit≤ tt)))) in
      let limited : All P limits = All-cons P (Ban banned last false) (RunningCapacity ten 60 true ∷ []) (short_ban banned few last) (All-cons P (RunningCapacity ten 60 true) [] (short_running ten) (All-nil P)) in
      All-cons P (Offline offline) (Online online ∷ (map spread_of (from 0 10) ++ limits)) (short_offline offline)
      (All-cons P (Online online) (map spread_of (from 0 10) ++ limits) (short_online online) (All-append P (map spread_of (from 0 10)) limits apart limited))

-- ---- the whole

short_instance : (p : Instance) → IsSmall (inventory_of p) → p.horizon < 1000 → length p.constraints ≤ 14 → All (λ c. IsShort 2000 (constraint_data (inventory_of p) c)) p.constraints → IsShort 231767 (instance_data p)
unfolding instance_data
short_instance p small low few rules =
    let k = inventory_of p in
    let machines : All (λ m. IsShort 860 (machine_data k m)) p.machines = λ i d lt. short_machine k small _ (small.machines i d lt) in
    let nodes : All (λ n. IsShort 641 (node_data k n)) p.nodes = λ i d lt. short_node k small _ (small.nodes i d lt) in
    let resources : All (λ name. IsShort 98 (string name)) p.resources = λ i d lt. short-string 16 _ (small.resource_names i d lt) in
    short-object 231766 _ (short-member 28016 203650 (codes "constraints") _ _ (lit≤ tt) (short-few 2000 14 _ p.constraints few rules)
    (short-member 5062 198488 (codes "durations") _ _ (lit≤ tt) (short_durations k small)
    (short-member 3 198385 (codes "horizon") _ _ (lit≤ tt) (short-number p.horizon low)
    (short-member 172202 26083 (codes "machines") _ _ (lit≤ tt) (short-few 860 200 _ p.machines small.few_machines machines)
    (short-member 25682 301 (codes "nodes") _ _ (lit≤ tt) (short-few 641 40 _ p.nodes small.few_nodes nodes)
    (short-member 200 1 (codes "resources") _ _ (lit≤ tt) (short-few 98 2 string p.resources (omega (arith, small.resources)) resources) short-end))))))

-- ---- a generated problem

small_amounts : (cpu mem : ℕ) → cpu < 1000 → mem < 1000 → (r : ℕ) → slice_index (amounts cpu mem) r < 1000
small_amounts cpu mem low also r =
    let P : ℕ → Type 0 = λ n. n < 1000 in
    at_each P 0 (omega arith) (amounts cpu mem) (All-cons P cpu (mem ∷ replicate 6 0) low (All-cons P mem (replicate 6 0) also (All-replicate P 6 0 (omega arith)))) r

small_node : (n : ℕ) → n < 1000 → IsSmallNode (generated_node n)
unfolding generated_node
small_node n low = record { name = omega (arith, short-decimal n low); capacity = small_amounts 32 64 (omega arith) (omega arith); own = refl }

small_machine : (seed i : ℕ) → i < 1000 → IsSmallMachine (generated_machine seed i)
unfolding generated_machine
small_machine seed i low = record {
  name = omega (arith, short-decimal i low);
  usage = small_amounts (cpu_of seed i) (mem_of seed i) (omega (arith, cpu_small seed i)) (omega (arith, mem_small seed i));
  own = refl;
}

small_duration : (kind : Kind) → IsSmallDuration (generated_duration kind)
small_duration Forge = record { base = omega arith; per = omega arith }
small_duration Boot = record { base = omega arith; per = omega arith }
small_duration Shutdown = record { base = omega arith; per = omega arith }
small_duration Suspend = record { base = omega arith; per = omega arith }
small_duration Resume = record { base = omega arith; per = omega arith }
small_duration Migrate = record { base = omega arith; per = omega arith }
small_duration Allocate = record { base = omega arith; per = omega arith }
small_duration Kill = record { base = omega arith; per = omega arith }
small_duration NodeBoot = record { base = omega arith; per = omega arith }
small_duration NodeShutdown = record { base = omega arith; per = omega arith }

-- a cluster of so many nodes and machines
small_cluster : (seed nodes machines : ℕ) → nodes ≤ 40 → machines ≤ 200
    → IsSmall (record { resources = generated_resources; durations = map generated_duration kinds; nodes = map generated_node (from 0 nodes); machines = map (generated_machine seed) (from 0 machines) })
small_cluster seed nodes machines few some = record {
  resources = refl;
  resource_names = All-cons (λ name. length name ≤ 16) (codes "cpu") (codes "mem" ∷ []) (lit≤ tt) (All-cons (λ name. length name ≤ 16) (codes "mem") [] (lit≤ tt) (All-nil (λ name. length name ≤ 16)));
  durations = All-map IsSmallDuration generated_duration kinds (all_of (λ kind. IsSmallDuration (generated_duration kind)) kinds small_duration);
  nodes = each_of IsSmallNode generated_node 0 nodes (λ i below. small_node i (omega arith));
  few_nodes = omega (arith, length-map (from 0 nodes) generated_node, length-range_with_len 0 nodes);
  machines = each_of IsSmallMachine (generated_machine seed) 0 machines (λ i below. small_machine seed i (omega arith));
  few_machines = omega (arith, length-map (from 0 machines) (generated_machine seed), length-range_with_len 0 machines);
}

generated_is_small : (seed : ℕ) → IsSmall (inventory_of (generated seed))
unfolding generated
generated_is_small seed = small_cluster seed node_total machine_total (lit≤ tt) (lit≤ tt)

few_rules : (seed : ℕ) → length (generated seed).constraints ≤ 14
unfolding generated generated_constraints
few_rules seed = lit≤ tt

rules_are_short : (k : Inventory) → IsSmall k → (seed : ℕ) → All (λ c. IsShort 2000 (constraint_data k c)) (generated seed).constraints
unfolding generated generated_constraints
rules_are_short k small seed = short_rules k small (set_of (emptied seed ∷ [])) (set_of (others (emptied seed))) (set_of (39 ∷ [])) (set_of (from 10 10)) (vms (from 40 10)) (few_vms k small 40 10 (lit≤ tt))

pub generated_text_is_short : GeneratedTextIsShort
unfolding instance_text
generated_text_is_short seed =
    let small = generated_is_small seed in
    let whole = short_instance (generated seed) small (omega (arith, horizon_at seed)) (few_rules seed) (rules_are_short (inventory_of (generated seed)) small seed) in
    omega (arith, whole.fits, length-append (compact_text (instance_data (generated seed))) (10 ∷ []))
