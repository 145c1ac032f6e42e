-- The tables of a monitor, by the numbers of elements: how far each action is, and when it starts and ends in the plan.
use Rattle.std.specs.Prelude.{◌≡◌, ℕ, ◌<◌, ◌≤◌, Bool, true, false, not, ◌&&◌, min, nat_le, nat_lt, if◌then◌else◌, List, length, slice_index_or, Option, Some, None, IfSome, IsTrue}
use Rattle.judge.specs.Prelude.{Choices, element_at, element_count, end_of, Instance, inventory_of}
use Rattle.cluster.specs.declared.{choices.Choice.Choice, choices.Choice.TheVariants.Idle, choices.Choice.TheVariants.Act, ids.Element.Element}
use Rattle.executor.specs.{declared.phase.Phase.Phase, declared.phase.Phase.TheVariants.Waiting, declared.times.Times.Times, Phases.is_ended, Phases.phase_at}

-- ---- times

-- when the action of a choice starts and ends
abbrev pub times_of : Instance → Element → Choice → Option Times
times_of p e Idle = None
times_of p e (Act place start) = Some (record { start = start; end = end_of p e (Act place start) })

-- the table tells when each action of the plan starts and ends
pub record AreTimes (p : Instance) (plan : Choices) (table : List (Option Times)) : Type 0 where
  pub count : length table ≡ element_count (inventory_of p)
  pub each : (x : ℕ) → x < element_count (inventory_of p) →
      slice_index_or table x None ≡ times_of p (element_at (inventory_of p) x) (plan (element_at (inventory_of p) x))

-- both are actions, and the second ends by the start of the first
abbrev pub waits_between : Option Times → Option Times → Bool
waits_between None b = false
waits_between (Some a) None = false
waits_between (Some a) (Some b) = nat_le b.end a.start

abbrev pub waits_at : List (Option Times) → ℕ → ℕ → Bool
waits_at times a b = waits_between (slice_index_or times a None) (slice_index_or times b None)

-- a waits for b, which has not ended
abbrev pub is_open_at : List (Option Times) → List Phase → ℕ → ℕ → Bool
is_open_at times phases a b = waits_at times a b && not (is_ended (phase_at phases b))

-- ---- places

-- the first place below the count with a property, if there is one
abbrev pub IsFirstPlace : ℕ → (ℕ → Type 0) → Option ℕ → Type 0
IsFirstPlace count those None = (y : ℕ) → y < count → ¬ those y
IsFirstPlace count those (Some x) = (x < count) × those x × ((y : ℕ) → y < x → ¬ those y)

-- ---- readiness

-- the end of an action that has not ended
abbrev pub open_end : Option Times → Phase → Option ℕ
open_end None phase = None
open_end (Some action) phase = if is_ended phase then None else Some action.end

abbrev pub open_end_at : List (Option Times) → List Phase → ℕ → Option ℕ
open_end_at times phases x = open_end (slice_index_or times x None) (phase_at phases x)

-- the lesser of two ends, of which each may be missing
abbrev pub lesser : Option ℕ → Option ℕ → Option ℕ
lesser None b = b
lesser (Some a) None = Some a
lesser (Some a) (Some b) = Some (min a b)

-- the least end of the actions of the first places that have not ended, if there is one
abbrev pub IsLeastOpenEnd : List (Option Times) → List Phase → ℕ → Option ℕ → Type 0
IsLeastOpenEnd times phases count None = (x : ℕ) → x < count → open_end_at times phases x ≡ None
IsLeastOpenEnd times phases count (Some end) =
    ((x : ℕ) × (x < count) × (open_end_at times phases x ≡ Some end)) × ((x : ℕ) → x < count → IfSome (open_end_at times phases x) (λ other. end ≤ other))

-- an action starts before an end, where both are there
abbrev pub starts_before : Option Times → Option ℕ → Bool
starts_before None end = true
starts_before (Some action) None = true
starts_before (Some action) (Some end) = nat_lt action.start end

-- the action of a place waits, and all that it waits for has ended
pub record IsReadyAt (times : List (Option Times)) (phases : List Phase) (x : ℕ) : Type 0 where
  pub waiting : phase_at phases x ≡ Waiting
  pub none_open : (b : ℕ) → b < length phases → ¬ IsTrue (is_open_at times phases x b)
