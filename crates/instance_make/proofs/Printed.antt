-- A printed problem has no floats, and nests no deeper than can be read.
use Rattle.std.proofs.Common.{IfSome, option_map, slice_index_or, codes, if◌then◌else◌}
use Rattle.base.proofs.Public.{◌≡◌, ℕ, suc, ◌≤◌, Bool, true, false, List, [], length, Option, Some, None, is_some, slice_index, arith, list_any, range_with_len}
use Rattle.instance_make.specs.Prelude.{among_object, amounts_data, both_object, constraint_data, constraint_word, Duration, duration_data, duration_of_kind, durations_data, flagged_machines_object, groups_list, host_data, Instance, instance_data, Inventory, inventory_of, kind_number, kind_word, kinds, Machine, machine_data, machine_name, machines_list, machines_object, node_count_object, node_data, node_name_at, nodes_in, nodes_list, nodes_object, NodeSet, object_by, overbook_object, own_data, parts_list, precedence_object, preserve_object, resource_capacity_object, split_object, State, state_word, unit_members, VmId}
use Rattle.cluster.specs.declared.nodes.Node.{Node}
use Rattle.catalogue.specs.declared.constraint.Constraint.{Constraint}
use Rattle.catalogue.specs.declared.constraint.Constraint.TheVariants.{Spread, Ban, Fence, Gather, Lonely, Among, Split, Root, Precedence, Serialize, Preserve, ResourceCapacity, RunningCapacity, MaxOnline, Overbook, Online, Offline, Running, Sleeping, Ready, Killed}
use Rattle.serde_json.specs.Data.{number, unsigned, depth}
use Rattle.serde_json.specs.Read.{max_depth}
use Rattle.serde_json.specs.Written.{has_float}
use Rattle.cluster.specs.declared.states.State.TheVariants as states
use Rattle.instance_make.proofs.Flat.{IsFlat, AreFlat, flat-string, flat-number, flat-boolean, flat-object, flat-end, flat-member, flat-put_if, flat-members_by, flat-list}

-- ---- amounts and durations

flat_amounts : (n : ℕ) (resources : List (List ℕ)) (amounts : List ℕ) → IsFlat (suc n) (amounts_data resources amounts)
unfolding amounts_data
flat_amounts n resources amounts =
    flat-object n _ (flat-members_by n (λ r. slice_index_or resources r []) (λ r. Some (number (unsigned (slice_index amounts r)))) (range_with_len 0 (length resources)) (λ r. flat-number n (slice_index amounts r)))

flat_unit : (n : ℕ) (resources : List (List ℕ)) (per : ℕ) (r : Option ℕ) → AreFlat n (unit_members resources per r)
flat_unit n resources per None = flat-end n
flat_unit n resources per (Some r) = flat-member n _ _ _ (flat-number n per) (flat-member n _ _ _ (flat-string n _) (flat-end n))

flat_duration : (n : ℕ) (resources : List (List ℕ)) (d : Duration) → IsFlat (suc n) (duration_data resources d)
unfolding duration_data
flat_duration n resources d = flat-object n _ (flat-member n _ _ _ (flat-number n d.base) (flat_unit n resources d.per d.resource))

flat_durations : (n : ℕ) (resources : List (List ℕ)) (ds : List (Option Duration)) → IsFlat (suc (suc n)) (durations_data resources ds)
unfolding durations_data
flat_durations n resources ds =
    flat-object (suc n) _ (flat-members_by (suc n) kind_word (duration_of_kind resources ds) kinds (λ kind. each (slice_index_or ds (kind_number kind) None)))
  where
    each : (o : Option Duration) → IfSome (option_map (duration_data resources) o) (IsFlat (suc n))
    each None = tt
    each (Some d) = flat_duration n resources d

flat_own : (n : ℕ) (resources : List (List ℕ)) (own : List (Option Duration)) → IfSome (own_data resources own) (IsFlat (suc (suc n)))
flat_own n resources own = by (list_any is_some own)
  where
    by : (b : Bool) → IfSome (if b then Some (durations_data resources own) else None) (IsFlat (suc (suc n)))
    by true = flat_durations n resources own
    by false = tt

-- ---- nodes and machines

flat_node : (n : ℕ) (k : Inventory) (x : Node) → IsFlat (suc (suc (suc n))) (node_data k x)
unfolding node_data
flat_node n k x =
    flat-object (suc (suc n)) _ (flat-put_if (suc (suc n)) (codes "durations") _ _ (flat_own n k.resources x.own)
    (flat-member (suc (suc n)) _ _ _ (flat_amounts (suc n) k.resources x.capacity)
    (flat-member (suc (suc n)) _ _ _ (flat-string (suc (suc n)) x.name)
    (flat-member (suc (suc n)) _ _ _ (flat-boolean (suc (suc n)) x.online) (flat-end (suc (suc n)))))))

flat_host : (n : ℕ) (k : Inventory) (state : State) → IfSome (host_data k state) (IsFlat n)
flat_host n k states.Init = tt
flat_host n k states.Ready = tt
flat_host n k (states.Running host) = flat-string n _
flat_host n k (states.Sleeping host) = flat-string n _
flat_host n k states.Gone = tt

flat_machine : (n : ℕ) (k : Inventory) (m : Machine) → IsFlat (suc (suc (suc n))) (machine_data k m)
unfolding machine_data
flat_machine n k m =
    flat-object (suc (suc n)) _ (flat-put_if (suc (suc n)) (codes "durations") _ _ (flat_own n k.resources m.own)
    (flat-put_if (suc (suc n)) (codes "node") _ _ (flat_host (suc (suc n)) k m.state)
    (flat-member (suc (suc n)) _ _ _ (flat-string (suc (suc n)) m.name)
    (flat-member (suc (suc n)) _ _ _ (flat-string (suc (suc n)) (state_word m.state))
    (flat-member (suc (suc n)) _ _ _ (flat_amounts (suc n) k.resources m.usage) (flat-end (suc (suc n))))))))

-- ---- lists of names

flat_machines : (n : ℕ) (k : Inventory) (vs : List VmId) → IsFlat (suc n) (machines_list k vs)
unfolding machines_list
flat_machines n k vs = flat-list n (machine_name k) vs (λ v. flat-string n _)

flat_parts : (n : ℕ) (k : Inventory) (parts : List (List VmId)) → IsFlat (suc (suc n)) (parts_list k parts)
unfolding parts_list
flat_parts n k parts = flat-list (suc n) (machines_list k) parts (flat_machines n k)

flat_nodes : (n : ℕ) (k : Inventory) (s : NodeSet) → IsFlat (suc n) (nodes_list k s)
unfolding nodes_list
flat_nodes n k s = flat-list n (node_name_at k) (nodes_in k s) (λ x. flat-string n _)

flat_groups : (n : ℕ) (k : Inventory) (groups : List NodeSet) → IsFlat (suc (suc n)) (groups_list k groups)
unfolding groups_list
flat_groups n k groups = flat-list (suc n) (nodes_list k) groups (flat_nodes n k)

-- ---- constraints

module _ (k : Inventory) (word : List ℕ) where
  flat_of_machines : (vs : List VmId) → IsFlat 3 (machines_object k word vs)
  unfolding machines_object
  flat_of_machines vs = flat-object 2 _ (flat-member 2 _ _ _ (flat-string 2 word) (flat-member 2 _ _ _ (flat_machines 1 k vs) (flat-end 2)))

  flat_flagged : (vs : List VmId) (b : Bool) → IsFlat 3 (flagged_machines_object k word vs b)
  unfolding flagged_machines_object
  flat_flagged vs b = flat-object 2 _ (flat-member 2 _ _ _ (flat-boolean 2 b) (flat-member 2 _ _ _ (flat-string 2 word) (flat-member 2 _ _ _ (flat_machines 1 k vs) (flat-end 2))))

  flat_both : (vs : List VmId) (s : NodeSet) (b : Bool) → IsFlat 3 (both_object k word vs s b)
  unfolding both_object
  flat_both vs s b =
      flat-object 2 _ (flat-member 2 _ _ _ (flat-boolean 2 b) (flat-member 2 _ _ _ (flat-string 2 word)
      (flat-member 2 _ _ _ (flat_machines 1 k vs) (flat-member 2 _ _ _ (flat_nodes 1 k s) (flat-end 2)))))

  flat_among : (vs : List VmId) (groups : List NodeSet) (b : Bool) → IsFlat 3 (among_object k word vs groups b)
  unfolding among_object
  flat_among vs groups b =
      flat-object 2 _ (flat-member 2 _ _ _ (flat-boolean 2 b) (flat-member 2 _ _ _ (flat_groups 0 k groups)
      (flat-member 2 _ _ _ (flat-string 2 word) (flat-member 2 _ _ _ (flat_machines 1 k vs) (flat-end 2)))))

  flat_split : (parts : List (List VmId)) (b : Bool) → IsFlat 3 (split_object k word parts b)
  unfolding split_object
  flat_split parts b = flat-object 2 _ (flat-member 2 _ _ _ (flat-boolean 2 b) (flat-member 2 _ _ _ (flat-string 2 word) (flat-member 2 _ _ _ (flat_parts 0 k parts) (flat-end 2))))

  flat_precedence : (before after : VmId) → IsFlat 3 (precedence_object k word before after)
  unfolding precedence_object
  flat_precedence before after = flat-object 2 _ (flat-member 2 _ _ _ (flat-string 2 _) (flat-member 2 _ _ _ (flat-string 2 _) (flat-member 2 _ _ _ (flat-string 2 word) (flat-end 2))))

  flat_preserve : (vs : List VmId) (r amount : ℕ) → IsFlat 3 (preserve_object k word vs r amount)
  unfolding preserve_object
  flat_preserve vs r amount =
      flat-object 2 _ (flat-member 2 _ _ _ (flat-number 2 amount) (flat-member 2 _ _ _ (flat-string 2 word)
      (flat-member 2 _ _ _ (flat_machines 1 k vs) (flat-member 2 _ _ _ (flat-string 2 _) (flat-end 2)))))

  flat_resource_capacity : (s : NodeSet) (r amount : ℕ) (b : Bool) → IsFlat 3 (resource_capacity_object k word s r amount b)
  unfolding resource_capacity_object
  flat_resource_capacity s r amount b =
      flat-object 2 _ (flat-member 2 _ _ _ (flat-number 2 amount) (flat-member 2 _ _ _ (flat-boolean 2 b) (flat-member 2 _ _ _ (flat-string 2 word)
      (flat-member 2 _ _ _ (flat_nodes 1 k s) (flat-member 2 _ _ _ (flat-string 2 _) (flat-end 2))))))

  flat_node_count : (s : NodeSet) (amount : ℕ) (b : Bool) → IsFlat 3 (node_count_object k word s amount b)
  unfolding node_count_object
  flat_node_count s amount b =
      flat-object 2 _ (flat-member 2 _ _ _ (flat-number 2 amount) (flat-member 2 _ _ _ (flat-boolean 2 b)
      (flat-member 2 _ _ _ (flat-string 2 word) (flat-member 2 _ _ _ (flat_nodes 1 k s) (flat-end 2)))))

  flat_overbook : (s : NodeSet) (r num den : ℕ) → IsFlat 3 (overbook_object k word s r num den)
  unfolding overbook_object
  flat_overbook s r num den =
      flat-object 2 _ (flat-member 2 _ _ _ (flat-number 2 den) (flat-member 2 _ _ _ (flat-string 2 word) (flat-member 2 _ _ _ (flat_nodes 1 k s)
      (flat-member 2 _ _ _ (flat-number 2 num) (flat-member 2 _ _ _ (flat-string 2 _) (flat-end 2))))))

  flat_of_nodes : (s : NodeSet) → IsFlat 3 (nodes_object k word s)
  unfolding nodes_object
  flat_of_nodes s = flat-object 2 _ (flat-member 2 _ _ _ (flat-string 2 word) (flat-member 2 _ _ _ (flat_nodes 1 k s) (flat-end 2)))

  flat_by : (c : Constraint) → IsFlat 3 (object_by k word c)
  flat_by (Spread vs b) = flat_flagged vs b
  flat_by (Ban vs s b) = flat_both vs s b
  flat_by (Fence vs s b) = flat_both vs s b
  flat_by (Gather vs b) = flat_flagged vs b
  flat_by (Lonely vs b) = flat_flagged vs b
  flat_by (Among vs groups b) = flat_among vs groups b
  flat_by (Split parts b) = flat_split parts b
  flat_by (Root vs) = flat_of_machines vs
  flat_by (Precedence before after) = flat_precedence before after
  flat_by (Serialize vs) = flat_of_machines vs
  flat_by (Preserve vs r amount) = flat_preserve vs r amount
  flat_by (ResourceCapacity s r amount b) = flat_resource_capacity s r amount b
  flat_by (RunningCapacity s amount b) = flat_node_count s amount b
  flat_by (MaxOnline s amount b) = flat_node_count s amount b
  flat_by (Overbook s r num den) = flat_overbook s r num den
  flat_by (Online s) = flat_of_nodes s
  flat_by (Offline s) = flat_of_nodes s
  flat_by (Running vs) = flat_of_machines vs
  flat_by (Sleeping vs) = flat_of_machines vs
  flat_by (Ready vs) = flat_of_machines vs
  flat_by (Killed vs) = flat_of_machines vs

flat_constraint : (k : Inventory) (c : Constraint) → IsFlat 3 (constraint_data k c)
unfolding constraint_data
flat_constraint k c = flat_by k (constraint_word c) c

-- ---- the whole

flat_instance : (p : Instance) → IsFlat 5 (instance_data p)
unfolding instance_data
flat_instance p =
    flat-object 4 _ (flat-member 4 _ _ _ (flat-list 3 _ p.constraints (flat_constraint (inventory_of p)))
    (flat-member 4 _ _ _ (flat_durations 2 p.resources _)
    (flat-member 4 _ _ _ (flat-number 4 p.horizon)
    (flat-member 4 _ _ _ (flat-list 3 _ p.machines (flat_machine 0 (inventory_of p)))
    (flat-member 4 _ _ _ (flat-list 3 _ p.nodes (flat_node 0 (inventory_of p)))
    (flat-member 4 _ _ _ (flat-list 3 _ p.resources (λ name. flat-string 3 name)) (flat-end 4)))))))

pub plain_instance : (p : Instance) → has_float (instance_data p) ≡ false
plain_instance p = (flat_instance p).plain

pub small_instance : (p : Instance) → depth (instance_data p) ≤ max_depth
small_instance p = omega (arith, (flat_instance p).small)
