-- The plan that empties the node of a generated problem, and what it proves.
use Rattle.std.specs.Prelude.{ℕ, ◌+◌, ◌*◌, ◌/◌, ◌%◌, ◌==◌, max, if◌then◌else◌}
use Rattle.std.specs.List.{fold}
use Rattle.slices.specs.Prelude.{Choices, end_of, IsInfeasible, IsPlan, IsValid, vm}
use Rattle.cluster.specs.declared.choices.Choice.{Choice}
use Rattle.cluster.specs.declared.choices.Choice.TheVariants.{Idle, Act}
use Rattle.cluster.specs.declared.choices.Place.TheVariants.{Nowhere, At}
use Rattle.cluster.specs.declared.ids.Element.TheVariants.{Vm, Node as TheNode}
use Rattle.instance_make.specs.Generated.{node_total, emptied, from, host_of, generated}

-- where the machine with that number, which is on the emptied node k, goes: its node's five machines go to five nodes
abbrev pub goes_to : ℕ → ℕ → ℕ
goes_to k i = (k + 4 + i / node_total) % node_total

-- at once
abbrev pub leaves : ℕ → ℕ → Choice
leaves k i = Act (At (record { 0 = goes_to k i })) 0

-- the end of the last of the five migrations
abbrev pub last_end : ℕ → ℕ
last_end seed = fold (λ most i. max most (end_of (generated seed) (vm (emptied seed + node_total * i)) (leaves (emptied seed) (emptied seed + node_total * i)))) 0 (from 0 5)

-- the five machines of the node migrate at 0, and then the node shuts down; all else stays
unfoldable pub emptying : ℕ → Choices
emptying seed (Vm v) = if host_of v.0 == emptied seed then leaves (emptied seed) v.0 else Idle
emptying seed (TheNode n) = if n.0 == emptied seed then Act Nowhere (last_end seed) else Idle

-- it is a plan of the generated problem, and valid
pub record Empties (seed : ℕ) : Type 0 where
  pub legal : IsPlan (generated seed) (emptying seed)
  pub valid : IsValid (generated seed) (emptying seed)

abbrev pub EmptyingIsValid : Type 0
EmptyingIsValid = (seed : ℕ) → Empties seed

-- hence no generated problem is infeasible
abbrev pub IsFeasible : ℕ → Type 0
IsFeasible seed = ¬ IsInfeasible (generated seed)
