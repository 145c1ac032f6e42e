-- Helping only: what some of the machines before a number hold.
use Rattle.std.specs.Prelude.{◌*◌, ◌≤◌}
use Rattle.relax.specs.Prelude.{Instance, machine_count, max_held, Nodes, Snapshot, sum_to}
use Rattle.{slices.specs.declared.slice.Weight.Weight, quick_checks.specs.declared.weighed.Weighed.Weighed}

-- no more than all of them
pub record IsWeighed (p : Instance) (s : Snapshot) (w : Weight) (set : Nodes) (x : Weighed) : Type 0 where
  pub within : x.next ≤ machine_count p
  pub part : x.total ≤ sum_to x.next (λ v. s.held v w set)
  pub small : x.total ≤ x.next * max_held
