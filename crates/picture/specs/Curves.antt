-- The loads of nodes.
use Rattle.std.specs.Prelude.{◌≡◌, ℕ, ◌<◌, List, [], length, map, slice_index_or}
use Rattle.std.specs.List.{All, range_with_len}
use Rattle.judge.specs.Prelude.{cell, loads_of, snapshot_at}
use Rattle.show.specs.Prelude.{Choices, Instance}
use Rattle.picture.specs.declared.marks.LoadCurve.{LoadCurve}
use Rattle.picture.specs.declared.marks.Step.{Step}

-- the load of a node for a resource from an instant on, as a report has it
abbrev pub step_at : Instance → Choices → ℕ → ℕ → ℕ → Step
step_at p plan n r t = record { at = t; amount = loads_of p (snapshot_at p plan t) n r }

-- a step for each instant
abbrev pub steps_of : Instance → Choices → ℕ → ℕ → List ℕ → List Step
steps_of p plan n r instants = map (step_at p plan n r) instants

-- the heights of a curve are the loads of the node at each instant
abbrev pub IsCurve : Instance → Choices → ℕ → List ℕ → LoadCurve → Type 0
IsCurve p plan n instants load = load.curve.steps.items ≡ steps_of p plan n load.resource instants

abbrev pub resource_of_curve : LoadCurve → ℕ
resource_of_curve load = load.resource

-- one curve for each resource, in order
pub record AreCurves (p : Instance) (plan : Choices) (n : ℕ) (instants : List ℕ) (curves : List LoadCurve) : Type 0 where
  pub resources : map resource_of_curve curves ≡ range_with_len 0 (length p.resources)
  pub loads : All (IsCurve p plan n instants) curves

-- tables of the loads of all nodes, one for each instant
pub record AreLoads (p : Instance) (plan : Choices) (instants : List ℕ) (tables : List (List (List ℕ))) : Type 0 where
  pub count : length tables ≡ length instants
  pub each : (k n r : ℕ) → k < length instants → r < length p.resources → cell (slice_index_or tables k []) n r ≡ loads_of p (snapshot_at p plan (slice_index_or instants k 0)) n r
