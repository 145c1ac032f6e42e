-- The report on a plan.
use Rattle.std.specs.Prelude.{◌↔◌, ℕ, List, ◌++◌, Option, IsNone, IfSome}
use Rattle.std.specs.{Io.StartsWith, List.flat_map}
use Rattle.judge.specs.Prelude.{Choices, Instance, IsFirstBroken, IsValid}
use Rattle.slices.specs.declared.rule.Broken.{Broken}
use Rattle.replay.specs.{Events.events, Lines.at_line, Lines.verdict_line}

-- what is broken first: nothing exactly where the plan is valid
pub record IsVerdict (p : Instance) (plan : Choices) (answer : Option Broken) : Type 0 where
  pub valid : IsNone answer ↔ IsValid p plan
  pub broken : IfSome answer (IsFirstBroken p plan)

-- a line for each event instant, and the verdict
unfoldable pub report_text : Instance → Choices → Option Broken → List ℕ
report_text p plan answer = flat_map (at_line p plan) (events p plan) ++ verdict_line p plan answer

-- what was written before, and after it a prefix of the report
pub record IsPrefixOfReport (p : Instance) (plan : Choices) (before after : List ℕ) : Type 0 where
  pub answer : Option Broken
  pub verdict : IsVerdict p plan answer
  pub prefix : StartsWith (before ++ report_text p plan answer) after
