-- What stands in a sound cluster or problem is not refused where it is added once more, each in its turn.
use Rattle.std.proofs.Common.{if◌then◌else◌}
use Rattle.base.proofs.Public.{◌≡◌, ◌<◌, ◌&&◌, ℕ, Bool, true, false, not, List, [], ◌∷◌, ◌++◌, length, nat_le, Some, None, refl, ap, arith, common_steps, length-append, le-ltb, lt-leb, bytes_eq}
use Rattle.remake.specs.Prelude.{base_fault, Constraint, Instance, Inventory, instance_with, inventory_of, is_rule, IsInstance, IsInventory, machine_fault, max_constraints, node_fault, rule_fault}
use Rattle.catalogue.specs.Prelude.{are_named_machines, are_named_nodes, constraint_fault, differ, host_is_online, is_fitting, is_named_resource, is_taken, machine_fits, machines_in, max_machines, max_nodes, max_resources, names_of_machines, names_of_nodes, node_fits}
use Rattle.catalogue.specs.declared.constraint.RuleFault.TheVariants.{NoSuch, TooGreat, TooMany, Twice}
use Rattle.cluster.specs.declared.{machines.Machine.Machine, nodes.Node.Node}
use Rattle.remake.proofs.NameLemmas.{All_at, machine_is_new, node_is_new, position_none}

-- ---- clusters

pub base_not_refused : (k : Inventory) → IsInventory k → base_fault k.resources k.durations ≡ None
base_not_refused k sound = rw (le-ltb max_resources (length k.resources) sound.few_resources, sound.apart_resources, sound.durations_fit) refl

fewer : {A : Type 0} (all done : List A) (x : A) (rest : List A) → done ++ x ∷ rest ≡ all → length done < length all
fewer all done x rest whole = omega (arith, length-append done (x ∷ rest), ap length whole)

-- a node after those before it
pub node_not_refused : (k : Inventory) → IsInventory k → (done : List Node) (x : Node) (rest : List Node) → done ++ x ∷ rest ≡ k.nodes → node_fault (record k { nodes = done; machines = [] }) x ≡ None
node_not_refused k sound done x rest whole =
    let room : nat_le max_nodes (length done) ≡ false = lt-leb max_nodes (length done) (omega (arith, fewer k.nodes done x rest whole, sound.few_nodes)) in
    let new = position_none (bytes_eq x.name) (names_of_nodes done) (node_is_new k sound done x rest whole) in
    let free : is_taken (record k { nodes = done; machines = [] }) x.name ≡ false = rw (position_none (bytes_eq x.name) [] refl, new) refl in
    let fits = All_at (λ n. node_fits (length k.resources) n ≡ true) k.nodes done x rest whole sound.nodes_fit in
    rw (room, free, fits) refl

-- a machine after all nodes and the machines before it
pub machine_not_refused : (k : Inventory) → IsInventory k → (done : List Machine) (m : Machine) (rest : List Machine) → done ++ m ∷ rest ≡ k.machines → machine_fault (record k { machines = done }) m ≡ None
machine_not_refused k sound done m rest whole =
    let room : nat_le max_machines (length done) ≡ false = lt-leb max_machines (length done) (omega (arith, fewer k.machines done m rest whole, sound.few_machines)) in
    let new = machine_is_new k sound done m rest whole in
    let free : is_taken (record k { machines = done }) m.name ≡ false =
    rw (position_none (bytes_eq m.name) (names_of_machines done) new.0, position_none (bytes_eq m.name) (names_of_nodes k.nodes) new.1) refl
    in
    let online = All_at (λ m. host_is_online k.nodes m.state ≡ true) k.machines done m rest whole sound.hosts in
    let fits = All_at (λ m. machine_fits (length k.resources) m ≡ true) k.machines done m rest whole sound.machines_fit in
    rw (room, free, online, fits) refl

-- ---- constraints

by_tests : (full : Bool) (a b c d e : Bool) → full ≡ false → (a && b && c && d && e) ≡ true
    → (if full then Some TooMany else if not (a && b && c) then Some NoSuch else if not d then Some Twice else if e then None else Some TooGreat) ≡ None
by_tests full a b c d e room all = grind (arith, common_steps)

-- a constraint without a fault of its own, where there is room for it
pub rule_not_refused : (p : Instance) (c : Constraint) → length p.constraints < max_constraints → is_rule (inventory_of p) c ≡ true → rule_fault p c ≡ None
unfolding rule_fault constraint_fault
rule_not_refused p c room all =
    by_tests (nat_le max_constraints (length p.constraints)) (are_named_machines (inventory_of p) c) (are_named_nodes (inventory_of p) c) (is_named_resource (inventory_of p) c) (differ (machines_in c)) (is_fitting c)
    (lt-leb max_constraints (length p.constraints) room) all

-- a constraint of a sound problem after those before it
pub rule_in_turn : (k : Inventory) (horizon : ℕ) (all : List Constraint) → IsInstance (instance_with k horizon all) → (done : List Constraint) (c : Constraint) (rest : List Constraint) → done ++ c ∷ rest ≡ all →
    rule_fault (instance_with k horizon done) c ≡ None
rule_in_turn k horizon all sound done c rest whole =
    rule_not_refused (instance_with k horizon done) c (omega (arith, fewer all done c rest whole, sound.few)) (All_at (λ c. is_rule k c ≡ true) all done c rest whole sound.rules)
