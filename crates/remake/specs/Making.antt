-- Instances, put together of their parts.
use Rattle.std.specs.Prelude.{ℕ, List, ◌++◌}
use Rattle.catalogue.specs.Prelude.{Instance, Inventory}
use Rattle.catalogue.specs.declared.constraint.Constraint.{Constraint}

-- a cluster with a last instant and constraints
abbrev pub instance_with : Inventory → ℕ → List Constraint → Instance
instance_with k horizon constraints =
    record { resources = k.resources; durations = k.durations; nodes = k.nodes; machines = k.machines; horizon = horizon; constraints = constraints }

-- an instance with these constraints after its own
abbrev pub with_more : Instance → List Constraint → Instance
with_more p constraints = record p { constraints = p.constraints ++ constraints }
