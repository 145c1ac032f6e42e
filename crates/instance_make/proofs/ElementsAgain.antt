-- Printed resources, nodes and machines are read again.
use Rattle.std.proofs.Common.{map, codes}
use Rattle.base.proofs.Public.{◌≡◌, ℕ, ◌==◌, ◌||◌, Bool, true, false, not, List, [], ◌∷◌, ◌++◌, length, nat_le, Option, Some, None, is_some, Ok, refl, sym, ap, ◌∙◌, arith, le-leb, and_parts, eqb-true, length-map, map-append, list_any, list_all, position, bytes_eq}
use Rattle.instance_make.specs.Prelude.{amounts_data, amounts_fit, amounts_in, are_distinct, element_of_places, Field, field_by, field_of, flag_of, has_places, host_data, host_from, host_is_online, Inventory, is_name, is_online, IsInventory, IsListed, item_path, key_path, keys_of, kind_count, list_data, list_of, listed_node, Machine, machine_data, machine_fits, machine_from, machine_keys, machine_step, machines_from, max_machines, max_nodes, max_resources, name_of, names_of_machines, names_of_nodes, new_name_from, Node as NodeElement, node_data, node_fits, node_from, node_name, node_step, NodeId, nodes_from, only_keys, only_of, optional, optional_flag, own_data, own_durations, put_if, resource_step, resources_from, State, state_by, state_from, state_word}
use Rattle.cluster.specs.declared.nodes.Node.{Node}
use Rattle.serde_json.specs.Data.{Data, boolean, string, object, Members, no_members, member}
use Rattle.serde_json.specs.Find.{get_member}
use Rattle.json_walk.proofs.Public.{items_list-items_of}
use Rattle.cluster.specs.declared.states.State.TheVariants as states
use Rattle.cluster.proofs.Public.{element_named-name_of, is_name-name_of, is_online-lt}
use Rattle.instance_json.proofs.Public.{of_node, of_machine, word_of_state, word_field-state, name_from-name}
use Rattle.remake.proofs.Public.{All_at, apart_before, earlier_part, machine_is_new, node_is_new, none_at_position, position_none}
use Rattle.instance_make.proofs.Making.{each_made}
use Rattle.instance_make.proofs.Putting.{put_if-other, put_if-here, keys-put_if}
use Rattle.instance_make.proofs.AmountsAgain.{amounts_again, own_again, node_fits-owner, machine_fits-owner}

-- ---- resources

resource_once : (k : Inventory) → IsInventory k → (path : List ℕ) (done : List (List ℕ)) (name : List ℕ) (rest : List (List ℕ)) → done ++ name ∷ rest ≡ k.resources
    → resource_step path (length done) done (string name) ≡ Ok (done ++ name ∷ [])
unfolding resource_step
resource_once k sound path done name rest whole =
    let named : is_name name ≡ true = All_at (λ name. is_name name ≡ true) k.resources done name rest whole sound.named_resources in
    let new : list_any (bytes_eq name) done ≡ false = apart_before done name rest (ap are_distinct whole ∙ sound.apart_resources) in
    rw (name_from-name name (item_path path (length done)) named, new) refl

pub resources_again : (k : Inventory) → IsInventory k → (path : List ℕ) → resources_from (list_data (map string k.resources)) path ≡ Ok k.resources
unfolding resources_from list_of
resources_again k sound path =
    let few : nat_le (length (map string k.resources)) max_resources ≡ true = le-leb _ max_resources (omega (arith, length-map k.resources string, sound.few_resources)) in
    rw (items_list-items_of (map string k.resources), few) (each_made (resource_step path) (λ done. done) string k.resources (resource_once k sound path))

-- ---- members

pub field_found : (ms : Members) (path key : List ℕ) (v : Data) → get_member key ms ≡ Some v → field_of (object ms) path key ≡ Ok v
unfolding field_of
field_found ms path key v found = rw found refl

pub only_known : (ms : Members) (path : List ℕ) (keys : List (List ℕ)) → list_all (λ key. list_any (bytes_eq key) keys) (keys_of ms) ≡ true → only_keys Field keys (object ms) path ≡ Ok tt
unfolding only_of
only_known ms path keys all = rw all refl

flag_found : (absent : Bool) (ms : Members) (path key : List ℕ) (b : Bool) → get_member key ms ≡ Some (boolean b) → optional_flag Field absent (object ms) path key ≡ Ok b
unfolding optional flag_of
flag_found absent ms path key b found = rw found refl

amounts_found : (k : Inventory) → IsInventory k → (amounts : List ℕ) → length amounts ≡ max_resources → amounts_fit (length k.resources) amounts ≡ true → (ms : Members) (path key : List ℕ)
    → get_member key ms ≡ Some (amounts_data k.resources amounts) → amounts_in k.resources (object ms) path key ≡ Ok amounts
unfolding optional
amounts_found k sound amounts long fit ms path key found = rw found (amounts_again k sound amounts long fit (key_path path key))

-- ---- names

new_name : (k : Inventory) (name path : List ℕ) → is_name name ≡ true → list_any (bytes_eq name) (names_of_machines k.machines) ≡ false → list_any (bytes_eq name) (names_of_nodes k.nodes) ≡ false
    → new_name_from k (string name) path ≡ Ok name
unfolding new_name_from
new_name k name path named machines nodes =
    rw (name_from-name name path named, position_none (bytes_eq name) (names_of_machines k.machines) machines, position_none (bytes_eq name) (names_of_nodes k.nodes) nodes) refl

-- ---- nodes

node_by_steps : (k : Inventory) (d : Data) (path : List ℕ) (x : Node) → field_by Field (new_name_from k) d path (codes "name") ≡ Ok x.name → optional_flag Field true d path (codes "online") ≡ Ok x.online
    → amounts_in k.resources d path (codes "capacity") ≡ Ok x.capacity → own_durations k.resources of_node d path ≡ Ok x.own → ((keys : List (List ℕ)) → keys ≡ codes "name" ∷ codes "online" ∷ codes "capacity" ∷ codes "durations" ∷ [] → only_keys Field keys d path ≡ Ok tt)
    → node_from k d path ≡ Ok x
unfolding node_from
node_by_steps k d path x name online capacity own keys = rw (name, online, capacity, own, keys _ refl) refl

-- the nodes so far
abbrev with_nodes : Inventory → List Node → Inventory
with_nodes k done = record { resources = k.resources; durations = k.durations; nodes = done; machines = [] }

or_true : (a : Bool) → (a || true) ≡ true
or_true true = refl
or_true false = refl

node_again : (k : Inventory) → IsInventory k → (path : List ℕ) (done : List Node) (x : Node) (rest : List Node) → done ++ x ∷ rest ≡ k.nodes
    → node_from (with_nodes k done) (node_data k x) path ≡ Ok x
unfolding node_data
node_again k sound path done x rest whole =
    let own = own_data k.resources x.own in
    let base = member (codes "capacity") (amounts_data k.resources x.capacity) (member (codes "name") (string x.name) (member (codes "online") (boolean x.online) no_members)) in
    let ms = put_if (codes "durations") own base in
    let places = and_parts (length x.capacity == max_resources) _ (All_at (λ n. has_places n.capacity n.own ≡ true) k.nodes done x rest whole sound.nodes_have_places) in
    let fits = and_parts (amounts_fit (length k.resources) x.capacity) _ (All_at (λ n. node_fits (length k.resources) n ≡ true) k.nodes done x rest whole sound.nodes_fit) in
    let named : is_name x.name ≡ true = All_at (λ n. is_name n.name ≡ true) k.nodes done x rest whole sound.named_nodes in
    let name_at : get_member (codes "name") ms ≡ Some (string x.name) = put_if-other (codes "name") (codes "durations") own base refl in
    let online_at : get_member (codes "online") ms ≡ Some (boolean x.online) = put_if-other (codes "online") (codes "durations") own base refl in
    let capacity_at : get_member (codes "capacity") ms ≡ Some (amounts_data k.resources x.capacity) = put_if-other (codes "capacity") (codes "durations") own base refl in
    let own_at : get_member (codes "durations") ms ≡ own = put_if-here (codes "durations") own base refl in
    let long : length x.own ≡ kind_count = eqb-true (length x.own) kind_count places.1 in
    node_by_steps (with_nodes k done) (object ms) path x
    (rw (field_found ms path (codes "name") (string x.name) name_at) (new_name (with_nodes k done) x.name (key_path path (codes "name")) named refl (node_is_new k sound done x rest whole)))
    (flag_found true ms path (codes "online") x.online online_at)
    (amounts_found k sound x.capacity (eqb-true (length x.capacity) max_resources places.0) fits.0 ms path (codes "capacity") capacity_at)
    (own_again k sound of_node x.own (node_fits-owner (length k.resources) x.own long fits.1) (object ms) path own_at)
    (λ keys is. only_known ms path keys (rw is (keys-put_if (λ key. list_any (bytes_eq key) (codes "name" ∷ codes "online" ∷ codes "capacity" ∷ codes "durations" ∷ [])) (codes "durations") own base (or_true (not (is_some own))) refl)))

node_once : (k : Inventory) → IsInventory k → (path : List ℕ) (done : List Node) (x : Node) (rest : List Node) → done ++ x ∷ rest ≡ k.nodes
    → node_step path (length done) (with_nodes k done) (node_data k x) ≡ Ok (with_nodes k (done ++ x ∷ []))
unfolding node_step
node_once k sound path done x rest whole = rw (node_again k sound (item_path path (length done)) done x rest whole) refl

pub nodes_again : (k : Inventory) → IsInventory k → (path : List ℕ)
    → nodes_from (record { resources = k.resources; durations = k.durations; nodes = []; machines = [] }) (list_data (map (node_data k) k.nodes)) path
    ≡ Ok (record { resources = k.resources; durations = k.durations; nodes = k.nodes; machines = [] })
unfolding nodes_from list_of
nodes_again k sound path =
    let few : nat_le (length (map (node_data k) k.nodes)) max_nodes ≡ true = le-leb _ max_nodes (omega (arith, length-map k.nodes (node_data k), sound.few_nodes)) in
    rw (items_list-items_of (map (node_data k) k.nodes), few) (each_made (node_step path) (with_nodes k) (node_data k) k.nodes (node_once k sound path))

-- ---- machines

machine_by_steps : (k : Inventory) (d : Data) (path : List ℕ) (m : Machine) → field_by Field (new_name_from k) d path (codes "name") ≡ Ok m.name → state_from k d path ≡ Ok m.state
    → amounts_in k.resources d path (codes "use") ≡ Ok m.usage → own_durations k.resources of_machine d path ≡ Ok m.own → only_keys Field (machine_keys m.state) d path ≡ Ok tt
    → machine_from k d path ≡ Ok m
unfolding machine_from
machine_by_steps k d path m name state usage own keys = rw (name, state, usage, own, keys) refl

-- the machines so far
abbrev with_machines : Inventory → List Machine → Inventory
with_machines k done = record { resources = k.resources; durations = k.durations; nodes = k.nodes; machines = done }

-- a listed node is found by its name, and no machine has that name
node_found : (k : Inventory) → IsInventory k → (n : NodeId) → IsListed k (NodeElement n)
    → (position (bytes_eq (name_of k (NodeElement n))) (names_of_nodes k.nodes) ≡ Some n.0) × (list_any (bytes_eq (name_of k (NodeElement n))) (names_of_machines k.machines) ≡ false)
node_found k sound n listed =
    let test = bytes_eq (name_of k (NodeElement n)) in
    by n (position test (names_of_machines k.machines)) (position test (names_of_nodes k.nodes)) (element_named-name_of k (NodeElement n) sound listed) (none_at_position test (names_of_machines k.machines))
  where
    by : {B : Type 0} (n : NodeId) (p q : Option ℕ) → element_of_places p q ≡ Some (NodeElement n) → (p ≡ None → B) → (q ≡ Some n.0) × B
    by n (Some v) q is none = absurd (cc)
    by n None (Some m) is none = (cc, none refl)
    by n None None is none = absurd (cc)

-- the host is found, whichever machines there are so far
host_again : (k : Inventory) → IsInventory k → (done rest : List Machine) → done ++ rest ≡ k.machines → (host : NodeId) (path : List ℕ) → is_online k.nodes host.0 ≡ true
    → host_from (with_machines k done) (node_name k host) path ≡ Ok host
unfolding host_from listed_node
host_again k sound done rest whole host path online =
    let listed : IsListed k (NodeElement host) = is_online-lt k.nodes host.0 online in
    let found = node_found k sound host listed in
    let names : names_of_machines done ++ names_of_machines rest ≡ names_of_machines k.machines = sym (map-append (λ m. m.name) done rest) ∙ ap names_of_machines whole in
    let none : list_any (bytes_eq (name_of k (NodeElement host))) (names_of_machines done) ≡ false =
    earlier_part (bytes_eq (name_of k (NodeElement host))) (names_of_machines done) (names_of_machines rest) (ap (list_any (bytes_eq (name_of k (NodeElement host)))) names ∙ found.1) in
    rw (
      name_from-name (name_of k (NodeElement host)) path (is_name-name_of k (NodeElement host) sound listed),
      position_none (bytes_eq (name_of k (NodeElement host))) (names_of_machines done) none,
      found.0,
      online,
    ) refl

-- the state is read by its word, and its host where it has one
state_again : (k : Inventory) → IsInventory k → (done rest : List Machine) → done ++ rest ≡ k.machines → (state : State) → host_is_online k.nodes state ≡ true → (ms : Members) (path : List ℕ)
    → get_member (codes "state") ms ≡ Some (string (state_word state)) → get_member (codes "node") ms ≡ host_data k state → state_from (with_machines k done) (object ms) path ≡ Ok state
unfolding state_from state_by
state_again k sound done rest whole state online ms path word host =
    rw (word_field-state state (object ms) path (codes "state") (field_found ms path (codes "state") (string (state_word state)) word)) (by state online host)
  where
    by : (state : State) → host_is_online k.nodes state ≡ true → get_member (codes "node") ms ≡ host_data k state → state_by (with_machines k done) (word_of_state state) (object ms) path ≡ Ok state
    by states.Init online host = refl
    by states.Ready online host = refl
    by (states.Running h) online host = rw (field_found ms path (codes "node") (node_name k h) host, host_again k sound done rest whole h (key_path path (codes "node")) online) refl
    by (states.Sleeping h) online host = rw (field_found ms path (codes "node") (node_name k h) host, host_again k sound done rest whole h (key_path path (codes "node")) online) refl
    by states.Gone online host = refl

-- the keys of a machine are those of its state
keys_again : (k : Inventory) (state : State) (own : Option Data) (name word usage : Data)
    → list_all (λ key. list_any (bytes_eq key) (machine_keys state))
    (keys_of (put_if (codes "durations") own (put_if (codes "node") (host_data k state) (member (codes "name") name (member (codes "state") word (member (codes "use") usage no_members)))))) ≡ true
keys_again k states.Init None name word usage = refl
keys_again k states.Init (Some d) name word usage = refl
keys_again k states.Ready None name word usage = refl
keys_again k states.Ready (Some d) name word usage = refl
keys_again k (states.Running h) None name word usage = refl
keys_again k (states.Running h) (Some d) name word usage = refl
keys_again k (states.Sleeping h) None name word usage = refl
keys_again k (states.Sleeping h) (Some d) name word usage = refl
keys_again k states.Gone None name word usage = refl
keys_again k states.Gone (Some d) name word usage = refl

machine_again : (k : Inventory) → IsInventory k → (path : List ℕ) (done : List Machine) (m : Machine) (rest : List Machine) → done ++ m ∷ rest ≡ k.machines
    → machine_from (with_machines k done) (machine_data k m) path ≡ Ok m
unfolding machine_data
machine_again k sound path done m rest whole =
    let own = own_data k.resources m.own in
    let host = host_data k m.state in
    let base = member (codes "name") (string m.name) (member (codes "state") (string (state_word m.state)) (member (codes "use") (amounts_data k.resources m.usage) no_members)) in
    let hosted = put_if (codes "node") host base in
    let ms = put_if (codes "durations") own hosted in
    let places = and_parts (length m.usage == max_resources) _ (All_at (λ m. has_places m.usage m.own ≡ true) k.machines done m rest whole sound.machines_have_places) in
    let fits = and_parts (amounts_fit (length k.resources) m.usage) _ (All_at (λ m. machine_fits (length k.resources) m ≡ true) k.machines done m rest whole sound.machines_fit) in
    let online = All_at (λ m. host_is_online k.nodes m.state ≡ true) k.machines done m rest whole sound.hosts in
    let named : is_name m.name ≡ true = All_at (λ m. is_name m.name ≡ true) k.machines done m rest whole sound.named_machines in
    let new = machine_is_new k sound done m rest whole in
    let name_at : get_member (codes "name") ms ≡ Some (string m.name) = put_if-other (codes "name") (codes "durations") own hosted refl ∙ put_if-other (codes "name") (codes "node") host base refl in
    let state_at : get_member (codes "state") ms ≡ Some (string (state_word m.state)) = put_if-other (codes "state") (codes "durations") own hosted refl ∙ put_if-other (codes "state") (codes "node") host base refl in
    let usage_at : get_member (codes "use") ms ≡ Some (amounts_data k.resources m.usage) = put_if-other (codes "use") (codes "durations") own hosted refl ∙ put_if-other (codes "use") (codes "node") host base refl in
    let node_at : get_member (codes "node") ms ≡ host = put_if-other (codes "node") (codes "durations") own hosted refl ∙ put_if-here (codes "node") host base refl in
    let own_at : get_member (codes "durations") ms ≡ own = put_if-here (codes "durations") own hosted (put_if-other (codes "durations") (codes "node") host base refl) in
    let long : length m.own ≡ kind_count = eqb-true (length m.own) kind_count places.1 in
    machine_by_steps (with_machines k done) (object ms) path m
    (rw (field_found ms path (codes "name") (string m.name) name_at) (new_name (with_machines k done) m.name (key_path path (codes "name")) named new.0 new.1))
    (state_again k sound done (m ∷ rest) whole m.state online ms path state_at node_at)
    (amounts_found k sound m.usage (eqb-true (length m.usage) max_resources places.0) fits.0 ms path (codes "use") usage_at)
    (own_again k sound of_machine m.own (machine_fits-owner (length k.resources) m.own long fits.1) (object ms) path own_at)
    (only_known ms path (machine_keys m.state) (keys_again k m.state own (string m.name) (string (state_word m.state)) (amounts_data k.resources m.usage)))

machine_once : (k : Inventory) → IsInventory k → (path : List ℕ) (done : List Machine) (m : Machine) (rest : List Machine) → done ++ m ∷ rest ≡ k.machines
    → machine_step path (length done) (with_machines k done) (machine_data k m) ≡ Ok (with_machines k (done ++ m ∷ []))
unfolding machine_step
machine_once k sound path done m rest whole = rw (machine_again k sound (item_path path (length done)) done m rest whole) refl

pub machines_again : (k : Inventory) → IsInventory k → (path : List ℕ)
    → machines_from (record { resources = k.resources; durations = k.durations; nodes = k.nodes; machines = [] }) (list_data (map (machine_data k) k.machines)) path ≡ Ok k
unfolding machines_from list_of
machines_again k sound path =
    let few : nat_le (length (map (machine_data k) k.machines)) max_machines ≡ true = le-leb _ max_machines (omega (arith, length-map k.machines (machine_data k), sound.few_machines)) in
    rw (items_list-items_of (map (machine_data k) k.machines), few) (each_made (machine_step path) (with_machines k) (machine_data k) k.machines (machine_once k sound path))
