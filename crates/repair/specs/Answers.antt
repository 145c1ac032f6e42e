-- What the call answers.
use Rattle.std.specs.Prelude.{◌≡◌, ◌≢◌, Result, Ok, Err}
use Rattle.slices.specs.Prelude.{Choices, Instance, PlanChoices, SoundInstance}
use Rattle.cluster.specs.declared.ids.Element.{Element}
use Rattle.executor.specs.{declared.phase.Phase.TheVariants.Running, Answers.IsFirst, Phases.Phases}
use Rattle.repair.specs.{declared.faults.RestFault.RestFault, Rest.IsGoingOn}
use Rattle.repair.specs.declared.faults.RestFault.TheVariants as fault

-- where nothing runs, the problem and the plan that are left; otherwise the first element whose action runs
abbrev pub RestGives : Instance → Choices → Phases → Result (SoundInstance × PlanChoices) RestFault → Type 0
RestGives p plan phases (Ok (q, after)) = ((e : Element) → phases e ≢ Running) × IsGoingOn p plan phases q.given after
RestGives p plan phases (Err (fault.Running e)) = IsFirst p (λ x. phases x ≡ Running) e
RestGives p plan phases (Err fault.Memory) = (e : Element) → phases e ≢ Running
