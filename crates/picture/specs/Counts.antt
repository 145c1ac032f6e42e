-- How many act, and how many nodes are powered.
use Rattle.std.specs.Prelude.{◌≡◌, ℕ, ◌&&◌, Bool, true, nat_le, nat_lt, List, map}
use Rattle.std.specs.List.{count_by}
use Rattle.judge.specs.Prelude.{snapshot_at}
use Rattle.slices.specs.Snapshots.{powered_nodes}
use Rattle.show.specs.Prelude.{Choices, Instance}
use Rattle.show.specs.declared.actions.Action.{Action}
use Rattle.picture.specs.declared.marks.Curve.{Curve}
use Rattle.picture.specs.declared.marks.Step.{Step}

-- whether an action is under way at an instant
abbrev pub is_under_way : ℕ → Action → Bool
is_under_way t a = nat_le a.start t && nat_lt t a.end

-- how many actions are under way from an instant on
abbrev pub acting_step : List Action → ℕ → Step
acting_step actions t = record { at = t; amount = count_by (is_under_way t) actions }

-- how many nodes are powered from an instant on
abbrev pub powered_step : Instance → Choices → ℕ → Step
powered_step p plan t = record { at = t; amount = powered_nodes p (snapshot_at p plan t) (λ n. true) }

-- a curve whose heights are the numbers of actions that are under way at each instant
abbrev pub IsActingCurve : List Action → List ℕ → Curve → Type 0
IsActingCurve actions instants curve = curve.steps.items ≡ map (acting_step actions) instants

-- a curve whose heights are the numbers of nodes that are powered at each instant
abbrev pub IsPoweredCurve : Instance → Choices → List ℕ → Curve → Type 0
IsPoweredCurve p plan instants curve = curve.steps.items ≡ map (powered_step p plan) instants
