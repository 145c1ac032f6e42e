-- The problem that is generated from a seed: 40 nodes with five machines each, of which one node is to be emptied and shut down.
use Rattle.std.specs.Prelude.{ℕ, ◌+◌, ◌*◌, ◌/◌, ◌%◌, ◌==◌, true, false, not, List, [], ◌∷◌, ◌++◌, map, replicate, Some, None, codes}
use Rattle.std.specs.Fmt.{decimal}
use Rattle.std.specs.List.{filter, fold, range_with_len}
use Rattle.instance_json.specs.Prelude.{Instance, kinds, no_durations, no_nodes, one_instant, with_node}
use Rattle.cluster.specs.declared.durations.Duration.{Duration}
use Rattle.cluster.specs.declared.ids.VmId.{VmId}
use Rattle.cluster.specs.declared.kinds.Kind.{Kind}
use Rattle.cluster.specs.declared.kinds.Kind.TheVariants.{Forge, Boot, Shutdown, Suspend, Resume, Migrate, Allocate, Kill, NodeBoot, NodeShutdown}
use Rattle.cluster.specs.declared.machines.Machine.{Machine}
use Rattle.cluster.specs.declared.nodes.Node.{Node}
use Rattle.cluster.specs.declared.sets.NodeSet.{NodeSet}
use Rattle.cluster.specs.declared.states.State.TheVariants.{Running}
use Rattle.catalogue.specs.declared.constraint.Constraint.{Constraint}
use Rattle.catalogue.specs.declared.constraint.Constraint.TheVariants.{Spread, Ban, RunningCapacity, Online, Offline}

-- how many nodes and machines there are
abbrev pub node_total : ℕ
node_total = 40

abbrev pub machine_total : ℕ
machine_total = 200

-- the node that is to be emptied
abbrev pub emptied : ℕ → ℕ
emptied seed = seed % node_total

-- the numbers from one on, so many
abbrev pub from : ℕ → ℕ → List ℕ
from first count = range_with_len first count

-- ---- what there is

-- amounts of cpu and mem, and none past them
abbrev pub amounts : ℕ → ℕ → List ℕ
amounts cpu mem = cpu ∷ mem ∷ replicate 6 0

-- migrations last 2, and 1 for each unit of mem; node boots 4, node shutdowns 2, and all else 1
abbrev pub generated_duration : Kind → Duration
generated_duration Migrate = record { base = 2; per = 1; resource = Some 1 }
generated_duration NodeBoot = record { base = 4; per = 0; resource = None }
generated_duration NodeShutdown = record { base = 2; per = 0; resource = None }
generated_duration Forge = one_instant
generated_duration Boot = one_instant
generated_duration Shutdown = one_instant
generated_duration Suspend = one_instant
generated_duration Resume = one_instant
generated_duration Allocate = one_instant
generated_duration Kill = one_instant

abbrev pub node_text : ℕ → List ℕ
node_text n = codes "n" ++ decimal n

abbrev pub machine_text : ℕ → List ℕ
machine_text i = codes "v" ++ decimal i

unfoldable pub generated_node : ℕ → Node
generated_node n = record { name = node_text n; online = true; capacity = amounts 32 64; own = no_durations }

-- what a machine uses: cpu 1 to 4, mem 1 to 8
unfoldable pub cpu_of : ℕ → ℕ → ℕ
cpu_of seed i = 1 + (seed % 4 + i) % 4

unfoldable pub mem_of : ℕ → ℕ → ℕ
mem_of seed i = 1 + (seed % 8 + i + i / 40) % 8

-- the node on which a machine runs
abbrev pub host_of : ℕ → ℕ
host_of i = i % node_total

unfoldable pub generated_machine : ℕ → ℕ → Machine
generated_machine seed i = record { name = machine_text i; state = Running (record { 0 = host_of i }); usage = amounts (cpu_of seed i) (mem_of seed i); own = no_durations }

-- ---- constraints

-- the set of these nodes
abbrev pub set_of : List ℕ → NodeSet
set_of ns = fold with_node no_nodes ns

-- these machines
abbrev pub vms : List ℕ → List VmId
vms is = map (λ i. record { 0 = i }) is

-- all nodes but that one
abbrev pub others : ℕ → List ℕ
others k = filter (λ n. not (n == k)) (from 0 node_total)

-- four machines in a row, no two of them on one node
abbrev pub spread_of : ℕ → Constraint
spread_of g = Spread (vms (from (4 * g) 4)) true

unfoldable pub generated_constraints : ℕ → List Constraint
generated_constraints k =
    Offline (set_of (k ∷ [])) ∷ Online (set_of (others k)) ∷
    (map spread_of (from 0 10) ++
    Ban (vms (from 40 10)) (set_of (39 ∷ [])) false ∷ RunningCapacity (set_of (from 10 10)) 60 true ∷ [])

-- ---- the problem

unfoldable pub generated : ℕ → Instance
generated seed = record {
  resources = codes "cpu" ∷ codes "mem" ∷ [];
  durations = map generated_duration kinds;
  nodes = map generated_node (from 0 node_total);
  machines = map (generated_machine seed) (from 0 machine_total);
  horizon = 60;
  constraints = generated_constraints (emptied seed);
}
