-- What the bytes of a plan mean for a problem.
use Rattle.std.specs.Prelude.{ℕ, List, Option, Some, None, Result, Ok, Err, codes, option_map}
use Rattle.plan_io.specs.Files.{bytes_of, Files}
use Rattle.slices.specs.Prelude.{Choices, choices_of, Instance, inventory_of, PlanChoices}
use Rattle.plan_json.specs.{Plans.plan_of, Texts.fault_text, declared.fault.PlanFault.PlanFault}
use Rattle.command_frame.specs.Inputs.{input_line}

abbrev pub plan_line : (text : List ℕ) → List ℕ
plan_line text = input_line (codes "plan") text

-- ---- where there may be no plan

-- The choices of a plan, or none, or the line of its first fault.
abbrev pub any_plan_lined : Instance → Result (Option PlanChoices) PlanFault → Result (Option Choices) (List ℕ)
any_plan_lined p (Ok plan) = Ok (option_map choices_of plan)
any_plan_lined p (Err f) = Err (plan_line (fault_text (inventory_of p) f))

-- The plan, or none, that these bytes are for a problem, or the line that refuses them.
unfoldable pub any_plan_reading_of : Instance → List ℕ → Result (Option Choices) (List ℕ)
any_plan_reading_of p bytes = any_plan_lined p (plan_of p bytes)

-- The plan for a problem, or none, in the file of this name, or the line that refuses it.
abbrev pub any_plan_in : Instance → Files → (name : List ℕ) → Result (Option Choices) (List ℕ)
any_plan_in p files name = any_plan_reading_of p (bytes_of (files name))

-- ---- where there has to be one

-- The same, and where there is none the line that says so.
abbrev pub needed : Result (Option Choices) (List ℕ) → Result Choices (List ℕ)
needed (Ok (Some plan)) = Ok plan
needed (Ok None) = Err (plan_line (codes "no plan"))
needed (Err line) = Err line

-- The plan for a problem in the file of this name, or the line that refuses it.
abbrev pub plan_in : Instance → Files → (name : List ℕ) → Result Choices (List ℕ)
plan_in p files name = needed (any_plan_in p files name)
