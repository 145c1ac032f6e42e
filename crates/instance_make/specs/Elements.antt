-- Nodes and machines as objects.
use Rattle.std.specs.Prelude.{ℕ, List, [], length, Option, Some, None, is_some, option_map, slice_index, slice_index_or, codes, if◌then◌else◌}
use Rattle.std.specs.List.{list_any, range_with_len}
use Rattle.instance_json.specs.Prelude.{Inventory, kind_number, kind_word, kinds, name_of, state_word}
use Rattle.cluster.specs.declared.ids.Element.TheVariants.{Vm, Node as NodeElement}
use Rattle.cluster.specs.declared.ids.NodeId.{NodeId}
use Rattle.cluster.specs.declared.ids.VmId.{VmId}
use Rattle.cluster.specs.declared.kinds.Kind.{Kind}
use Rattle.cluster.specs.declared.durations.Duration.{Duration}
use Rattle.cluster.specs.declared.machines.Machine.{Machine}
use Rattle.cluster.specs.declared.nodes.Node.{Node}
use Rattle.cluster.specs.declared.states.State.{State}
use Rattle.cluster.specs.declared.states.State.TheVariants.{Init, Ready, Running, Sleeping, Gone}
use Rattle.serde_json.specs.Data.{Data, boolean, string, number, unsigned, object, Members, no_members, member}
use Rattle.instance_make.specs.Members.{members_by, put_if}

-- ---- names

abbrev pub machine_name : Inventory → VmId → Data
machine_name k v = string (name_of k (Vm v))

abbrev pub node_name : Inventory → NodeId → Data
node_name k n = string (name_of k (NodeElement n))

-- the name of the resource of that place
abbrev pub resource_name : List (List ℕ) → ℕ → Data
resource_name resources r = string (slice_index_or resources r [])

-- ---- amounts and durations

-- the amount of each resource
unfoldable pub amounts_data : List (List ℕ) → List ℕ → Data
amounts_data resources amounts =
    object (members_by (λ r. slice_index_or resources r []) (λ r. Some (number (unsigned (slice_index amounts r)))) (range_with_len 0 (length resources)))

-- what is counted for each unit of a resource, where one is kept
abbrev pub unit_members : List (List ℕ) → ℕ → Option ℕ → Members
unit_members resources per None = no_members
unit_members resources per (Some r) = member (codes "per") (number (unsigned per)) (member (codes "resource") (resource_name resources r) no_members)

unfoldable pub duration_data : List (List ℕ) → Duration → Data
duration_data resources d = object (member (codes "base") (number (unsigned d.base)) (unit_members resources d.per d.resource))

-- the duration of a kind, if there is one
abbrev pub duration_of_kind : List (List ℕ) → List (Option Duration) → Kind → Option Data
duration_of_kind resources durations kind = option_map (duration_data resources) (slice_index_or durations (kind_number kind) None)

-- the durations of those kinds that have one
unfoldable pub durations_data : List (List ℕ) → List (Option Duration) → Data
durations_data resources durations = object (members_by kind_word (duration_of_kind resources durations) kinds)

-- an element's own durations, where it has one
abbrev pub own_data : List (List ℕ) → List (Option Duration) → Option Data
own_data resources own = if list_any is_some own then Some (durations_data resources own) else None

-- ---- nodes

unfoldable pub node_data : Inventory → Node → Data
node_data k n =
    object (put_if (codes "durations") (own_data k.resources n.own)
    (member (codes "capacity") (amounts_data k.resources n.capacity)
    (member (codes "name") (string n.name)
    (member (codes "online") (boolean n.online) no_members))))

-- ---- machines

-- the host of a state, if it has one
abbrev pub host_data : Inventory → State → Option Data
host_data k Init = None
host_data k Ready = None
host_data k (Running host) = Some (node_name k host)
host_data k (Sleeping host) = Some (node_name k host)
host_data k Gone = None

unfoldable pub machine_data : Inventory → Machine → Data
machine_data k m =
    object (put_if (codes "durations") (own_data k.resources m.own)
    (put_if (codes "node") (host_data k m.state)
    (member (codes "name") (string m.name)
    (member (codes "state") (string (state_word m.state))
    (member (codes "use") (amounts_data k.resources m.usage) no_members)))))
