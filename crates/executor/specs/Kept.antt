-- What a monitor keeps.
use Rattle.std.specs.Prelude.{◌≡◌, length}
use Rattle.judge.specs.Prelude.{choices_of, element_count, inventory_of, IsPlanOf, IsValid}
use Rattle.executor.specs.{declared.monitor.Monitor.TheInside.Inside, Steps.IsExecution, Phases.phases_in, Tables.AreTimes, Views.Execution}

abbrev pub execution_of : Inside → Execution
execution_of m = record { problem = m.problem.now; plan = m.plan.now; phases = m.phases.items }

-- its plan is valid, its phases are those of an execution, and the times are those of the plan
pub record IsKept (m : Inside) : Type 0 where
  pub plan : IsPlanOf m.problem.now.given m.plan.now
  pub valid : IsValid m.problem.now.given (choices_of m.plan.now)
  pub execution : IsExecution m.problem.now.given (choices_of m.plan.now) (phases_in m.problem.now.given m.phases.items)
  pub rows : length m.phases.items ≡ element_count (inventory_of m.problem.now.given)
  pub times : AreTimes m.problem.now.given (choices_of m.plan.now) m.times.items
