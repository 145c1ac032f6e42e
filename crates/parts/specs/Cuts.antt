-- What is cut down to some of the machines and nodes, which get new numbers.
use Rattle.std.specs.Prelude.{ℕ, Bool, List, fold, map, filter}
use Rattle.cluster.specs.declared.choices.Choice.{Choice}
use Rattle.cluster.specs.declared.choices.Choice.TheVariants.{Idle, Act}
use Rattle.cluster.specs.declared.choices.Place.{Place}
use Rattle.cluster.specs.declared.choices.Place.TheVariants.{Nowhere, At}
use Rattle.cluster.specs.declared.ids.NodeId.{NodeId}
use Rattle.cluster.specs.declared.ids.VmId.{VmId}
use Rattle.cluster.specs.declared.sets.NodeSet.{NodeSet}
use Rattle.cluster.specs.declared.states.State.{State}
use Rattle.cluster.specs.declared.states.State.TheVariants.{Init, Ready, Running, Sleeping, Gone}
use Rattle.catalogue.specs.Prelude.{has_node, no_nodes, with_node}
use Rattle.catalogue.specs.declared.constraint.Constraint.{Constraint}
use Rattle.catalogue.specs.declared.constraint.Constraint.TheVariants.{Spread, Ban, Fence, Gather, Lonely, Among, Split, Root, Precedence, Serialize, Preserve, ResourceCapacity, RunningCapacity, MaxOnline, Overbook, Online, Offline, Running as WantedRunning, Sleeping as WantedSleeping, Ready as WantedReady, Killed}
use Rattle.parts.specs.Numbers.{new_number, passing}

-- ---- other numbers for nodes

abbrev pub renumbered_node : (ℕ → ℕ) → NodeId → NodeId
renumbered_node number n = record { 0 = number n.0 }

-- a state whose host has another number
abbrev pub renumbered_state : (ℕ → ℕ) → State → State
renumbered_state number Init = Init
renumbered_state number Ready = Ready
renumbered_state number (Running host) = Running (renumbered_node number host)
renumbered_state number (Sleeping host) = Sleeping (renumbered_node number host)
renumbered_state number Gone = Gone

-- a choice whose node has another number
abbrev pub renumbered_place : (ℕ → ℕ) → Place → Place
renumbered_place number Nowhere = Nowhere
renumbered_place number (At n) = At (renumbered_node number n)

abbrev pub renumbered_choice : (ℕ → ℕ) → Choice → Choice
renumbered_choice number Idle = Idle
renumbered_choice number (Act place start) = Act (renumbered_place number place) start

-- ---- lists, cut down to the machines that are mine and to the nodes that are ours

abbrev pub cut_machine : (ℕ → Bool) → VmId → VmId
cut_machine mine v = record { 0 = new_number mine v.0 }

abbrev pub cut_machines : (ℕ → Bool) → List VmId → List VmId
cut_machines mine vs = map (cut_machine mine) (filter (λ v. mine v.0) vs)

-- the set of these nodes
abbrev pub set_of : List ℕ → NodeSet
set_of ns = fold with_node no_nodes ns

-- of so many nodes that are listed
abbrev pub cut_nodes : (ℕ → Bool) → ℕ → NodeSet → NodeSet
cut_nodes ours count set = set_of (map (new_number ours) (filter (has_node set) (passing ours count)))

-- a constraint with its machines and nodes cut down
abbrev pub cut_constraint : (ℕ → Bool) → (ℕ → Bool) → ℕ → Constraint → Constraint
cut_constraint mine ours count (Spread vs b) = Spread (cut_machines mine vs) b
cut_constraint mine ours count (Ban vs ns b) = Ban (cut_machines mine vs) (cut_nodes ours count ns) b
cut_constraint mine ours count (Fence vs ns b) = Fence (cut_machines mine vs) (cut_nodes ours count ns) b
cut_constraint mine ours count (Gather vs b) = Gather (cut_machines mine vs) b
cut_constraint mine ours count (Lonely vs b) = Lonely (cut_machines mine vs) b
cut_constraint mine ours count (Among vs sets b) = Among (cut_machines mine vs) (map (cut_nodes ours count) sets) b
cut_constraint mine ours count (Split parts b) = Split (map (cut_machines mine) parts) b
cut_constraint mine ours count (Root vs) = Root (cut_machines mine vs)
cut_constraint mine ours count (Precedence before after) = Precedence (cut_machine mine before) (cut_machine mine after)
cut_constraint mine ours count (Serialize vs) = Serialize (cut_machines mine vs)
cut_constraint mine ours count (Preserve vs r amount) = Preserve (cut_machines mine vs) r amount
cut_constraint mine ours count (ResourceCapacity ns r amount b) = ResourceCapacity (cut_nodes ours count ns) r amount b
cut_constraint mine ours count (RunningCapacity ns amount b) = RunningCapacity (cut_nodes ours count ns) amount b
cut_constraint mine ours count (MaxOnline ns amount b) = MaxOnline (cut_nodes ours count ns) amount b
cut_constraint mine ours count (Overbook ns r num den) = Overbook (cut_nodes ours count ns) r num den
cut_constraint mine ours count (Online ns) = Online (cut_nodes ours count ns)
cut_constraint mine ours count (Offline ns) = Offline (cut_nodes ours count ns)
cut_constraint mine ours count (WantedRunning vs) = WantedRunning (cut_machines mine vs)
cut_constraint mine ours count (WantedSleeping vs) = WantedSleeping (cut_machines mine vs)
cut_constraint mine ours count (WantedReady vs) = WantedReady (cut_machines mine vs)
cut_constraint mine ours count (Killed vs) = Killed (cut_machines mine vs)
