-- What contracts see of a monitor.
use Rattle.std.specs.Prelude.{◌≡◌, List, Result, Ok, Err}
use Rattle.judge.specs.Prelude.{choices_of, IsFirstBroken, IsPlanOf, IsValid, PlanChoices, SoundInstance}
use Rattle.cluster.specs.declared.ids.Element.{Element}
use Rattle.executor.specs.{declared.phase.NewFault.NewFault, declared.phase.NewFault.TheVariants.NotValid, declared.phase.NewFault.TheVariants.Memory, declared.phase.Phase.Phase, Phases.Phases, Phases.first_phases, Phases.phases_in}
use Rattle.executor.specs.Steps.{IsExecution, MayStart}

-- a problem, a plan of it, and the phases of its elements by their numbers
pub record Execution : Type 0 where
  pub problem : SoundInstance
  pub plan : PlanChoices
  pub phases : List Phase

-- how far the action of each element is
abbrev pub phases_of : Execution → Phases
phases_of m = phases_in m.problem.given m.phases

-- what is so of every monitor: its plan is valid, and its phases are those of an execution
pub record IsMonitor (m : Execution) : Type 0 where
  pub plan : IsPlanOf m.problem.given m.plan
  pub valid : IsValid m.problem.given (choices_of m.plan)
  pub execution : IsExecution m.problem.given (choices_of m.plan) (phases_of m)

-- the answer of new: a monitor of which all actions wait, or why there is none
abbrev pub NewGives : SoundInstance → PlanChoices → Result Execution NewFault → Type 0
NewGives p plan (Ok m) =
    (m.problem ≡ p) × (m.plan ≡ plan) × (phases_of m ≡ first_phases (choices_of plan)) × IsValid p.given (choices_of plan)
NewGives p plan (Err (NotValid b)) = IsFirstBroken p.given (choices_of plan) b
NewGives p plan (Err Memory) = IsValid p.given (choices_of plan)

-- the problem and the plan stay
pub record IsSameWork (old new : Execution) : Type 0 where
  pub problem : new.problem ≡ old.problem
  pub plan : new.plan ≡ old.plan

-- the action of an element may start now
abbrev pub MayStartNow : Execution → Element → Type 0
MayStartNow m e = MayStart m.problem.given (choices_of m.plan) (phases_of m) e
