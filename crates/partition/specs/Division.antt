-- Helping only: what the groups of nodes give to each node and machine, kept in tables.
use Rattle.std.specs.Prelude.{◌≡◌, ℕ, Bool, false, not, ◌&&◌, List, Option, Some, None, map, unwrap_or, filter_map, slice_get, if◌then◌else◌}
use Rattle.std.specs.List.{list_any, range_with_len}
use Rattle.cluster.specs.declared.ids.NodeId.{NodeId}
use Rattle.cluster.specs.declared.ids.VmId.{VmId}
use Rattle.cluster.specs.declared.sets.NodeSet.{NodeSet}
use Rattle.cluster.specs.States.{host_of}
use Rattle.catalogue.specs.Prelude.{Instance, is_member}
use Rattle.catalogue.specs.declared.constraint.Constraint.{Constraint}
use Rattle.catalogue.specs.declared.targets.Wish.{Wish}
use Rattle.catalogue.specs.declared.targets.Wish.TheVariants.{Keep, To, Clash}
use Rattle.slices.specs.Actions.{wanted_state}
use Rattle.slices.specs.Elements.{machine_count, node_count, state_of}
use Rattle.slices.specs.Forms.{Form, Apart, Allowed, Together, Ordered, InTurn, Bounded, Powered, Settled, Outside, Within, OnHost, form_of}
use Rattle.parts.specs.Groups.{AreGroups, is_to_run, machine_group, node_group}
use Rattle.parts.specs.Splits.{first_uncovered, is_running}
use Rattle.partition.specs.Reach.{and_nodes, at, fits, form_reach, is_several, only_of}
use Rattle.partition.specs.declared.reach.Reach.TheVariants.{Nowhere}

-- the number of the group of a node
abbrev pub group_number : List NodeSet → ℕ → ℕ
group_number groups n = unwrap_or (node_group groups n) 0

-- each node is in a group, and the table has its number
pub record Covers (p : Instance) (groups : List NodeSet) (nodes : List ℕ) : Type 0 where
  pub are_groups : AreGroups p groups
  pub uncovered : first_uncovered p groups ≡ None
  pub by_node : nodes ≡ map (group_number groups) (range_with_len 0 (node_count p))

-- and another table has the group of each machine
pub record Divides (p : Instance) (groups : List NodeSet) (nodes machines : List ℕ) : Type 0 where
  pub covers : Covers p groups nodes
  pub by_machine : machines ≡ map (machine_group p groups) (range_with_len 0 (machine_count p))

-- ---- what a form says of a machine, by the tables

-- the group to which it ties the machine
abbrev pub tie_by : List ℕ → ℕ → Form → Option ℕ
tie_by nodes v (Allowed vs (Within ns)) = if is_member vs v then only_of (and_nodes nodes Nowhere ns) else None
tie_by nodes v (Allowed vs (Outside ns)) = None
tie_by nodes v (Allowed vs OnHost) = None
tie_by nodes v (Apart separation) = None
tie_by nodes v (Together vs choices) = None
tie_by nodes v (Ordered before after) = None
tie_by nodes v (InTurn vs) = None
tie_by nodes v (Bounded weight ns amount) = None
tie_by nodes v (Powered ns amount) = None
tie_by nodes v Settled = None

-- a machine of a list that passes a test
abbrev pub is_marked : List VmId → (ℕ → Bool) → ℕ → Bool
is_marked vs test w = is_member vs w && test w

-- it keeps the machine in its group
abbrev pub keeps_by : Instance → List ℕ → List ℕ → ℕ → Form → Bool
keeps_by p nodes machines v (Allowed vs (Within ns)) = is_marked vs (λ w. fits (and_nodes nodes Nowhere ns) (at machines w)) v
keeps_by p nodes machines v (Allowed vs (Outside ns)) = false
keeps_by p nodes machines v (Allowed vs OnHost) = is_marked vs (λ w. is_running (state_of p w)) v
keeps_by p nodes machines v (Apart separation) = false
keeps_by p nodes machines v (Together vs choices) = false
keeps_by p nodes machines v (Ordered before after) = false
keeps_by p nodes machines v (InTurn vs) = false
keeps_by p nodes machines v (Bounded weight ns amount) = false
keeps_by p nodes machines v (Powered ns amount) = false
keeps_by p nodes machines v Settled = false

-- whether a machine is wanted running, by whether it runs now and by the wish
abbrev pub to_run_by : Bool → Wish → Bool
to_run_by runs Keep = runs
to_run_by runs (To target) = is_to_run (To target)
to_run_by runs Clash = false

-- ---- and what all constraints say, as far as a list of them goes

abbrev pub tied_by : List ℕ → List Constraint → ℕ → Option ℕ
tied_by nodes cs v = slice_get (filter_map (λ c. tie_by nodes v (form_of c)) cs) 0

abbrev pub group_of_machine : Instance → List ℕ → ℕ → Option ℕ → Option NodeId → ℕ
group_of_machine p nodes v tie (Some host) = at nodes host.0
group_of_machine p nodes v tie None = if is_to_run (wanted_state p v) then unwrap_or tie 0 else 0

abbrev pub group_by : Instance → List ℕ → ℕ → ℕ
group_by p nodes v = group_of_machine p nodes v (tied_by nodes p.constraints v) (host_of (state_of p v))

abbrev pub is_kept_by : Instance → List ℕ → List ℕ → List Constraint → ℕ → Bool
is_kept_by p nodes machines cs v = list_any (λ c. keeps_by p nodes machines v (form_of c)) cs

abbrev pub is_free_by : Instance → List ℕ → List ℕ → ℕ → Bool
is_free_by p nodes machines v = is_to_run (wanted_state p v) && not (is_kept_by p nodes machines p.constraints v)

abbrev pub spans_by : List ℕ → List ℕ → Constraint → Bool
spans_by nodes machines c = is_several (form_reach machines nodes (form_of c))
