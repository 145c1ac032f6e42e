-- Executions: which action waits for which, and what each event does.
use Rattle.std.specs.Prelude.{◌≡◌, ◌≢◌, ◌↔◌, ℕ, Bool, false, nat_le, List, [], ◌∷◌, IsNone, IsTrue}
use Rattle.std.specs.Option.{option_map_or}
use Rattle.judge.specs.Prelude.{Choices, end_of, Instance, start_of}
use Rattle.cluster.specs.declared.{choices.Choice.Choice, choices.Choice.TheVariants.Idle, choices.Choice.TheVariants.Act, ids.Element.Element}
use Rattle.executor.specs.declared.phase.Phase.TheVariants.{None as NoAction, Waiting, Running, Ended, Failed}
use Rattle.executor.specs.Phases.{Phases, Moves}

-- ---- waits

-- in the plan, the action of the choice ends at an instant or earlier
abbrev pub is_over_by : Instance → Element → Choice → ℕ → Bool
is_over_by p e Idle t = false
is_over_by p e (Act place start) t = nat_le (end_of p e (Act place start)) t

-- action a waits for action b where b's end is at most a's start
abbrev pub waits : Instance → Choices → Element → Element → Bool
waits p plan a b = option_map_or (is_over_by p b (plan b)) (start_of (plan a)) false

-- an action may start where it waits, none has failed, and all that it waits for has ended
pub record MayStart (p : Instance) (plan : Choices) (phases : Phases) (a : Element) : Type 0 where
  pub waiting : phases a ≡ Waiting
  pub none_failed : (e : Element) → phases e ≢ Failed
  pub ended : (b : Element) → IsTrue (waits p plan a b) → phases b ≡ Ended

-- ---- events

-- an action starts, ends or fails
pub data Event : Type 0 where
  Start : Element → Event
  End : Element → Event
  Fail : Element → Event

-- what an event does: one that may start runs, and one that runs ends or fails
abbrev pub IsStep : Instance → Choices → Phases → Event → Phases → Type 0
IsStep p plan before (Start a) after = MayStart p plan before a × Moves before a Running after
IsStep p plan before (End a) after = (before a ≡ Running) × Moves before a Ended after
IsStep p plan before (Fail a) after = (before a ≡ Running) × Moves before a Failed after

-- one event after the other
abbrev pub Runs : Instance → Choices → Phases → List Event → Phases → Type 0
Runs p plan before [] after = after ≡ before
Runs p plan before (e ∷ events) after = (next : Phases) × IsStep p plan before e next × Runs p plan next events after

-- ---- what is so at every moment

-- the phase is None exactly where the element has no action, and where an action does not wait, all that it waits for has ended
pub record IsExecution (p : Instance) (plan : Choices) (phases : Phases) : Type 0 where
  pub idle : (e : Element) → (phases e ≡ NoAction) ↔ IsNone (start_of (plan e))
  pub forerunners : (a b : Element) → phases a ≢ Waiting → IsTrue (waits p plan a b) → phases b ≡ Ended
