-- How far each action is, and the stages that this makes.
use Rattle.std.specs.Prelude.{◌≡◌, ◌≢◌, ◌⊎◌, ℕ, ◌+◌, Bool, true, false, nat_lt, if◌then◌else◌, List, slice_index_or}
use Rattle.judge.specs.Prelude.{Choices, Instance, machine_count}
use Rattle.cluster.specs.declared.{choices.Choice.Choice, choices.Choice.TheVariants.Idle, choices.Choice.TheVariants.Act, ids.Element.Element, ids.Element.TheVariants.Vm, ids.Element.TheVariants.Node as TheNode}
use Rattle.slices.specs.declared.stage.Stage.{Stage}
use Rattle.executor.specs.declared.phase.Phase.{Phase}
use Rattle.executor.specs.declared.phase.Phase.TheVariants.{None as NoAction, Waiting, Running, Ended, Failed}

-- how far the action of each element is
abbrev pub Phases : Type 0
Phases = Element → Phase

abbrev pub phase_at : List Phase → ℕ → Phase
phase_at table x = slice_index_or table x NoAction

-- the phases that a table tells, by the numbers of elements; what is not an element has none
abbrev pub phases_in : Instance → List Phase → Phases
phases_in p table (Vm v) = if nat_lt v.0 (machine_count p) then phase_at table v.0 else NoAction
phases_in p table (TheNode n) = phase_at table (machine_count p + n.0)

abbrev pub first_phase : Choice → Phase
first_phase Idle = NoAction
first_phase (Act place start) = Waiting

-- at first all actions wait
abbrev pub first_phases : Choices → Phases
first_phases plan e = first_phase (plan e)

-- the action of an element goes on to a phase, and all others stay
pub record Moves (before : Phases) (e : Element) (phase : Phase) (after : Phases) : Type 0 where
  pub here : after e ≡ phase
  pub others : (x : Element) → x ≢ e → after x ≡ before x

-- whether an action has ended; one that has failed has not
abbrev pub is_ended : Phase → Bool
is_ended NoAction = false
is_ended Waiting = false
is_ended Running = false
is_ended Ended = true
is_ended Failed = false

-- every action has ended
abbrev pub AllEnded : Phases → Type 0
AllEnded phases = (e : Element) → (phases e ≡ NoAction) ⊎ (phases e ≡ Ended)

-- ---- stages

-- a failed action counts as started and not ended
abbrev pub stage_in : Phase → Stage
stage_in NoAction = record { started = false; ended = false }
stage_in Waiting = record { started = false; ended = false }
stage_in Running = record { started = true; ended = false }
stage_in Ended = record { started = true; ended = true }
stage_in Failed = record { started = true; ended = false }

-- the stages of all elements, of which the snapshot of an execution is made
unfoldable pub stages_in : Phases → Element → Stage
stages_in phases e = stage_in (phases e)
