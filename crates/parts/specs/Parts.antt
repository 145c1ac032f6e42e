-- The parts of a problem, one for each group of nodes.
use Rattle.std.specs.Prelude.{ℕ, Bool, not, ◌||◌, ◌==◌, List, map, filter, filter_map, option_map, slice_get}
use Rattle.cluster.specs.declared.machines.Machine.{Machine}
use Rattle.cluster.specs.declared.nodes.Node.{Node}
use Rattle.cluster.specs.declared.sets.NodeSet.{NodeSet}
use Rattle.catalogue.specs.Prelude.{Instance}
use Rattle.catalogue.specs.declared.constraint.Constraint.{Constraint}
use Rattle.slices.specs.Elements.{machine_count, node_count}
use Rattle.slices.specs.Forms.{Form, form_of}
use Rattle.parts.specs.Cuts.{cut_constraint, renumbered_state}
use Rattle.parts.specs.Groups.{in_group, machine_group}
use Rattle.parts.specs.Numbers.{new_number, passing}
use Rattle.parts.specs.Splits.{home, is_joint}

-- the machine is one of the part
abbrev pub in_part : Instance → List NodeSet → ℕ → ℕ → Bool
in_part p groups i v = machine_group p groups v == i

-- the part has a constraint of the form: a joint one is in its home part alone, all others are in each part
abbrev pub has_form : Instance → List NodeSet → ℕ → Form → Bool
has_form p groups i f = not (is_joint f) || (home p groups f == i)

-- ---- the items of a part, in their order

abbrev pub nodes_in : (ℕ → Bool) → List Node → ℕ → List Node
nodes_in ours nodes count = filter_map (slice_get nodes) (passing ours count)

-- a machine with the new number of its host
abbrev pub cut_host : (ℕ → Bool) → Machine → Machine
cut_host ours m = record m { state = renumbered_state (new_number ours) m.state }

abbrev pub machines_in_part : (ℕ → Bool) → (ℕ → Bool) → List Machine → ℕ → List Machine
machines_in_part mine ours machines count = filter_map (λ v. option_map (cut_host ours) (slice_get machines v)) (passing mine count)

abbrev pub constraints_in : Instance → List NodeSet → ℕ → List Constraint
constraints_in p groups i = map (cut_constraint (in_part p groups i) (in_group groups i) (node_count p)) (filter (λ c. has_form p groups i (form_of c)) p.constraints)

-- the part of a group: its nodes and machines in their order, with new numbers, and its constraints, each cut down to these
unfoldable pub part_of : Instance → List NodeSet → ℕ → Instance
part_of p groups i = record {
  resources = p.resources;
  durations = p.durations;
  nodes = nodes_in (in_group groups i) p.nodes (node_count p);
  machines = machines_in_part (in_part p groups i) (in_group groups i) p.machines (machine_count p);
  horizon = p.horizon;
  constraints = constraints_in p groups i;
}
