-- The laws of executions.
use Rattle.std.specs.Prelude.{◌≡◌, ◌≢◌, ℕ, ◌≤◌, ◌==◌, true, false, if◌then◌else◌, List}
use Rattle.judge.specs.Prelude.{Choices, choices_of, InRange, Instance, IsInstance, IsPlanOf, IsValid, Keeps, PlanChoices, snapshot, snapshot_at}
use Rattle.cluster.specs.declared.ids.Element.{Element}
use Rattle.slices.specs.{Snapshots.stages_at, declared.rule.Rule.Rule, declared.stage.Stage.Stage}
use Rattle.executor.specs.{declared.phase.Phase.TheVariants.Waiting, declared.phase.Phase.TheVariants.Running, declared.phase.Phase.TheVariants.Failed, Phases.AllEnded, Phases.Phases, Phases.first_phases, Phases.is_ended, Phases.stages_in}
use Rattle.executor.specs.Steps.{Event, IsExecution, IsStep, MayStart, Runs}

-- ---- every execution is one at each moment

abbrev pub BeginsWell : Type 0
BeginsWell = (p : Instance) (plan : Choices) → IsExecution p plan (first_phases plan)

abbrev pub StepsKeep : Type 0
StepsKeep =
    (p : Instance) (plan : Choices) (before after : Phases) (e : Event) → IsExecution p plan before → IsStep p plan before e after →
    IsExecution p plan after

-- ---- it keeps the rules

-- no node is over a capacity, every machine that is present and every image is on a usable node, and every continuous constraint holds
abbrev pub IsSafe : Instance → Choices → Phases → Type 0
IsSafe p plan phases = (r : Rule) → InRange p r → Keeps p (snapshot p plan (stages_in phases)) false r

-- so it is at each moment of an execution of a valid plan
abbrev pub ExecutionsAreSafe : Type 0
ExecutionsAreSafe =
    (p : Instance) → IsInstance p → (plan : PlanChoices) → IsPlanOf p plan → IsValid p (choices_of plan) →
    (phases : Phases) → IsExecution p (choices_of plan) phases → IsSafe p (choices_of plan) phases

-- hence after every list of events; the beginnings of a list are lists, so it is so after each event
abbrev pub EveryRunIsSafe : Type 0
EveryRunIsSafe =
    (p : Instance) → IsInstance p → (plan : PlanChoices) → IsPlanOf p plan → IsValid p (choices_of plan) →
    (events : List Event) (after : Phases) → Runs p (choices_of plan) (first_phases (choices_of plan)) events after →
    IsSafe p (choices_of plan) after

-- ---- it goes on, and it ends where the plan does

-- nothing runs, nothing has failed, and an action waits
pub record IsIdle (phases : Phases) : Type 0 where
  pub none_runs : (e : Element) → phases e ≢ Running
  pub none_failed : (e : Element) → phases e ≢ Failed
  pub waiting : Element
  pub waits : phases waiting ≡ Waiting

-- then an action may start
abbrev pub NeverStandsStill : Type 0
NeverStandsStill =
    (p : Instance) → IsInstance p → (plan : PlanChoices) → IsPlanOf p plan → (phases : Phases) →
    IsExecution p (choices_of plan) phases → IsIdle phases → (a : Element) × MayStart p (choices_of plan) phases a

-- all is where the plan has it at the horizon
abbrev pub IsAtTheEnd : Instance → Choices → Phases → Type 0
IsAtTheEnd p plan phases = snapshot p plan (stages_in phases) ≡ snapshot_at p plan p.horizon

-- so it is when all actions have ended
abbrev pub EndsAsPlanned : Type 0
EndsAsPlanned =
    (p : Instance) (plan : PlanChoices) → IsPlanOf p plan → (phases : Phases) → IsExecution p (choices_of plan) phases →
    AllEnded phases → IsAtTheEnd p (choices_of plan) phases

-- ---- what has ended counts at once, and all else goes as planned

-- the stages at an instant of the plan, but that what has ended is over from the beginning on
unfoldable pub rest_stages : Instance → Choices → Phases → ℕ → Element → Stage
rest_stages p plan phases t e = if is_ended (phases e) then record { started = true; ended = true } else stages_at p plan t e

-- so each rule is kept at each instant, at the horizon also the discrete constraints
abbrev pub RestKeeps : Type 0
RestKeeps =
    (p : Instance) → IsInstance p → (plan : PlanChoices) → IsPlanOf p plan → IsValid p (choices_of plan) →
    (phases : Phases) → IsExecution p (choices_of plan) phases → (t : ℕ) → t ≤ p.horizon → (r : Rule) → InRange p r →
    Keeps p (snapshot p (choices_of plan) (rest_stages p (choices_of plan) phases t)) (t == p.horizon) r
