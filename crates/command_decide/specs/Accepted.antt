-- What is proved of the files that `plan` writes: they are accepted.
use Rattle.std.specs.Prelude.{◌≡◌, ℕ, ◌<◌, ◌^◌, Bool, List, Ok}
use Rattle.search.specs.Prelude.{bytes_of, goal_in, Instance, least_in, plan_in}
use Rattle.plan_io.specs.Files.{Files}
use Rattle.cert_model.specs.Walks.{choices_handed}
use Rattle.cert_check.specs.{Laws.IsAccepted, declared.verdict.Verdict.Verdict, declared.verdict.Verdict.TheVariants.Yes}
use Rattle.search.specs.declared.found.Found.{Found}
use Rattle.command_frame.specs.Inputs.Plan.{any_plan_in}
use Rattle.command_decide.specs.Planning.{IsWritten}

-- The files of an answer, read for its problem: the plan's has the plan that is answered, or none. For it the certificate has the verdict yes,
-- with the goal and the least of the answer, and no other; strictly or not.
pub record AreAccepted (plan_file certificate : List ℕ) (budget : ℕ) (p : Instance) (found : Found) (files : Files) : Type 0 where
  pub plan : any_plan_in p files plan_file ≡ Ok (choices_handed (plan_in found))
  pub accepted : (strict : Bool) → IsAccepted p (choices_handed (plan_in found)) strict (bytes_of (files certificate)) (goal_in p budget found) (least_in found)

-- So it is of what is written, where the budget, as each that words can say, has 64 bits.
abbrev pub WrittenIsAccepted : Type 0
WrittenIsAccepted =
    (plan_file certificate : List ℕ) (budget : ℕ) → budget < 2 ^ 64 → (p : Instance) (before after : Files) (found : Found) → IsWritten plan_file certificate budget p before after found →
    AreAccepted plan_file certificate budget p found after

-- The yes to an answer.
abbrev pub yes_to : Instance → ℕ → Found → Verdict
yes_to p budget found = Yes (goal_in p budget found) (least_in found)
