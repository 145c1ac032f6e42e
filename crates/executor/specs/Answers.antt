-- What the calls of a monitor answer.
use Rattle.std.specs.Prelude.{◌≡◌, ◌≢◌, ◌⊎◌, ◌<◌, IsTrue, Result, Ok, Err}
use Rattle.judge.specs.Prelude.{Choices, element_number, Instance, inventory_of, IsElement}
use Rattle.cluster.specs.declared.ids.Element.{Element}
use Rattle.executor.specs.declared.phase.{Phase.Phase, Phase.TheVariants.Waiting, Phase.TheVariants.Running, Phase.TheVariants.Ended, Phase.TheVariants.Failed, StepFault.StepFault}
use Rattle.executor.specs.{declared.phase.StepFault.TheVariants.Already, declared.phase.StepFault.TheVariants.NotReady, declared.phase.StepFault.TheVariants.NotRunning, Phases.Phases, Phases.Moves, Steps.Start, Steps.IsStep, Steps.waits}

-- element a comes before element b
abbrev pub Precedes : Instance → Element → Element → Type 0
Precedes p a b = element_number (inventory_of p) a < element_number (inventory_of p) b

-- no element that comes before is of that kind
abbrev pub NoneBefore : Instance → Element → (Element → Type 0) → Type 0
NoneBefore p e those = (x : Element) → IsElement p x → Precedes p x e → ¬ those x

-- the first element of that kind
pub record IsFirst (p : Instance) (those : Element → Type 0) (e : Element) : Type 0 where
  pub listed : IsElement p e
  pub here : those e
  pub earlier : NoneBefore p e those

-- the action of a waits for that of b, which has not ended
abbrev pub IsOpen : Instance → Choices → Phases → Element → Element → Type 0
IsOpen p plan phases a b = IsTrue (waits p plan a b) × (phases b ≢ Ended)

-- why an action that waits may not start: the first action that has failed, or else the first one that has to end
abbrev pub IsHindrance : Instance → Choices → Phases → Element → Element → Type 0
IsHindrance p plan phases a e =
    IsFirst p (λ x. phases x ≡ Failed) e ⊎ (((x : Element) → phases x ≢ Failed) × IsFirst p (IsOpen p plan phases a) e)

-- the answer to a start
abbrev pub StartGives : {T : Type 0} → Instance → Choices → Phases → Element → Phases → Result T StepFault → Type 0
StartGives p plan before a after (Ok done) = IsStep p plan before (Start a) after
StartGives p plan before a after (Err Already) = (before a ≢ Waiting) × (after ≡ before)
StartGives p plan before a after (Err (NotReady e)) =
    (before a ≡ Waiting) × IsHindrance p plan before a e × (after ≡ before)
StartGives p plan before a after (Err NotRunning) = ⊥

-- the answer to an end or a failure, which is the phase that an action goes on to
abbrev pub StopGives : {T : Type 0} → Phases → Element → Phase → Phases → Result T StepFault → Type 0
StopGives before a phase after (Ok done) = (before a ≡ Running) × Moves before a phase after
StopGives before a phase after (Err Already) = ⊥
StopGives before a phase after (Err (NotReady e)) = ⊥
StopGives before a phase after (Err NotRunning) = (before a ≢ Running) × (after ≡ before)
