-- Staying: the plan in which nothing is done, where it is one and valid.
use Rattle.std.specs.Prelude.{◌≡◌, ℕ, List, [], ◌∷◌, ◌++◌, Option, Some, Bool, IsTrue}
use Rattle.cert_write.specs.Prelude.{Choices, choices_of, end_line, Instance, IsPlan, IsValid, PlanChoices}
use Rattle.cluster.specs.declared.{choices.Choice.TheVariants.Idle, ids.Element.Element}
use Rattle.reasons.specs.declared.reason.Reason.TheVariants.{Bound}
use Rattle.trees.specs.declared.steps.{Step.TheVariants.Fail, Goal.Goal}
use Rattle.search.specs.{declared.found.Found.Found, declared.found.Found.TheVariants.Optimal, Answers.IsValidPlan, Written.lines}

-- each element is idle
abbrev pub all_idle : Choices
all_idle e = Idle

-- that is a plan of the instance, and valid
pub record MayStay (p : Instance) : Type 0 where
  pub legal : IsPlan p all_idle
  pub valid : IsValid p all_idle

-- a valid plan in which each element is idle
pub record IsStayingPlan (p : Instance) (plan : PlanChoices) : Type 0 where
  pub valid_plan : IsValidPlan p plan
  pub idle : (e : Element) → choices_of plan e ≡ Idle

-- the answer is such a plan, and after its old bytes the file has that the bound refutes all else, and that nothing costs less than 0
pub record IsStayed (p : Instance) (tells : Bool) (old : List ℕ) (new : Option (List ℕ)) (found : Found) : Type 0 where
  pub plan : PlanChoices
  pub found_is : found ≡ Optimal plan
  pub stays : IsStayingPlan p plan
  pub text : IsTrue tells → new ≡ Some (old ++ lines p (Fail Bound ∷ []) ++ end_line (Goal.Optimal 0))
