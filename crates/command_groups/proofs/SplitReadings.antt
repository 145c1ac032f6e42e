-- What the splitting of a problem answers, by the groups that were read.
use Rattle.base.proofs.Public.{◌≡◌, ◌<◌, ℕ, List, length, Bool, true, false, Option, Some, None, Result, Ok, Err, ap, arith, option_map, if◌then◌else◌, find, range_with_len, nat_lt}
use Rattle.std.specs.Option.{option_or}
use Rattle.cluster.specs.declared.ids.NodeId.{NodeId}
use Rattle.cluster.specs.declared.ids.VmId.{VmId}
use Rattle.slices.specs.Elements.{machine_count, node_count}
use Rattle.parts.specs.Splits.{first_free, first_spanning, first_uncovered, is_free}
use Rattle.parts.proofs.Public.{found}
use Rattle.command_groups.specs.Prelude.{Fault, fault_said, faultless, groups_line, Instance, NodeSet, Reads, split_by, split_fault, split_reading_of, SplitFault}

-- ---- the fault speaks of a node or a machine of the problem

-- the first of the three that is there
abbrev first_of : Option ℕ → Option ℕ → Option ℕ → Option SplitFault
first_of node machine constraint =
    option_or (option_map (λ n. SplitFault.Uncovered (record { 0 = n })) node)
    (option_or (option_map (λ v. SplitFault.Free (record { 0 = v })) machine)
    (option_map SplitFault.Spans constraint))

a_node : (node machine constraint : Option ℕ) (n : NodeId) → first_of node machine constraint ≡ Some (SplitFault.Uncovered n) → node ≡ Some n.0
a_node (Some k) machine constraint n h = cc
a_node None (Some k) constraint n h = absurd (cc)
a_node None None (Some k) n h = absurd (cc)
a_node None None None n h = let none : None ≡ Some (SplitFault.Uncovered n) = h in absurd (cc)

a_machine : (node machine constraint : Option ℕ) (v : VmId) → first_of node machine constraint ≡ Some (SplitFault.Free v) → machine ≡ Some v.0
a_machine (Some k) machine constraint v h = absurd (cc)
a_machine None (Some k) constraint v h = cc
a_machine None None (Some k) v h = absurd (cc)
a_machine None None None v h = let none : None ≡ Some (SplitFault.Free v) = h in absurd (cc)

pub uncovered_is_listed : (p : Instance) (groups : List NodeSet) (n : NodeId) → split_fault p groups ≡ Some (SplitFault.Uncovered n) → n.0 < length p.nodes
unfolding split_fault
uncovered_is_listed p groups n h =
    let at : first_uncovered p groups ≡ Some n.0 = a_node (first_uncovered p groups) (first_free p groups) (first_spanning p groups) n h in
    omega (arith, (found _ 0 (node_count p) n.0 at).high)

free_below : (p : Instance) (groups : List NodeSet) (several : Bool) (v : ℕ) → (if several then find (is_free p groups) (range_with_len 0 (machine_count p)) else None) ≡ Some v → v < length p.machines
free_below p groups true v h = let at = found (is_free p groups) 0 (machine_count p) v h in omega (arith, at.high)
free_below p groups false v h = absurd (cc)

pub free_is_listed : (p : Instance) (groups : List NodeSet) (v : VmId) → split_fault p groups ≡ Some (SplitFault.Free v) → v.0 < length p.machines
unfolding split_fault
free_is_listed p groups v h =
    free_below p groups (nat_lt 1 (length groups)) v.0 (a_machine (first_uncovered p groups) (first_free p groups) (first_spanning p groups) v h)

-- ---- the reading

pub the_split : (p : Instance) (groups : List NodeSet) → split_fault p groups ≡ None → split_by p groups ≡ Ok groups
the_split p groups h = ap (faultless p groups) h

pub first_fault : (p : Instance) (groups : List NodeSet) (f : SplitFault) → split_fault p groups ≡ Some f → split_by p groups ≡ Err (groups_line (fault_said p f))
first_fault p groups f h = ap (faultless p groups) h

-- the groups were read
pub good_groups : (p : Instance) (reading : Result (List NodeSet) (List ℕ)) (groups : List NodeSet) → reading ≡ Ok groups → split_reading_of p reading ≡ split_by p groups
good_groups p reading groups h = ap (split_reading_of p) h

-- they were refused
pub bad_groups : {A B : Type 0} (view : A → List NodeSet) (other : B → List NodeSet) (p : Instance) (reading : Result (List NodeSet) (List ℕ)) (f : Fault) → Reads view (Err f) reading → Reads other (Err f) (split_reading_of p reading)
bad_groups view other p reading Fault.Words h = absurd h
bad_groups view other p reading (Fault.Input line) h = ap (split_reading_of p) h
bad_groups view other p reading Fault.ReadFault h = absurd h
bad_groups view other p reading Fault.WriteFault h = absurd h
bad_groups view other p reading Fault.Memory h = tt
