-- What `demo` answers, and what it leaves in its three files.
use Rattle.std.specs.Prelude.{◌≡◌, ◌≢◌, ◌⊎◌, ◌++◌, ℕ, false, List, Ok, codes}
use Rattle.std.specs.Fmt.{decimal}
use Rattle.plan_io.specs.Files.{Files}
use Rattle.instance_make.specs.Prelude.{generated, Instance}
use Rattle.search.specs.declared.found.Found.{Found, TheVariants.Optimal, TheVariants.Infeasible, TheVariants.Undecided}
use Rattle.solver.specs.Prelude.{plan_cost}
use Rattle.command_frame.specs.{Answer.Outside, Answer.Says, Answer.outside, Inputs.Instance.instance_in, declared.status.Status.Status}
use Rattle.command_decide.specs.Checking.{IsChecked}
use Rattle.command_make.specs.Generating.{HasGenerated, LeavesGenerated}
use Rattle.command_decide.specs.Planning.{IsWritten, LeavesPlanned}

-- How many decisions it may take.
abbrev pub demo_decisions : ℕ
demo_decisions = 10000

-- ---- its files

abbrev pub demo_instance : List ℕ
demo_instance = codes "demo-instance.json"

abbrev pub demo_plan : List ℕ
demo_plan = codes "demo-plan.json"

abbrev pub demo_certificate : List ℕ
demo_certificate = codes "demo-cert.txt"

-- ---- what it says

-- The line of an optimal plan that is accepted.
abbrev pub optimal_line : (seed cost : ℕ) → List ℕ
optimal_line seed cost = codes "demo " ++ decimal seed ++ codes " optimal " ++ decimal cost ++ codes " yes\n"

-- The line of what stayed undecided.
abbrev pub unsettled_line : (seed : ℕ) → List ℕ
unsettled_line seed = codes "demo " ++ decimal seed ++ codes " undecided\n"

-- What was found of the problem of a seed is said, once it was checked: that a plan is optimal, with its cost, or that it stayed undecided. That there is no plan is never said.
unfoldable pub SaysDemo : (seed : ℕ) → Instance → Found → Outside → Outside → Status → Type 0
SaysDemo seed p (Optimal plan) before after result = Says (optimal_line seed (plan_cost p plan)) Status.Good before after result
SaysDemo seed p Infeasible before after result = ⊥
SaysDemo seed p (Undecided best least) before after result = Says (unsettled_line seed) Status.Undecided before after result

-- ---- the answer

-- An answer to the generated problem is written as by `plan`. What was written is checked, `check` says yes, and what was found is said.
pub record IsPlannedAndChecked (seed : ℕ) (before after : Outside) (result : Status) : Type 0 where
  pub found : Found
  pub between : Files
  pub checked : Outside
  pub written : IsWritten demo_plan demo_certificate demo_decisions (generated seed) before.files between found
  pub accepted : IsChecked demo_plan demo_certificate false (generated seed) (outside between before.printed) checked Status.Good
  pub says : SaysDemo seed (generated seed) found (outside between before.printed) after result

-- `demo`: the problem of a seed is written, and reads back as itself. Then it is planned and checked.
pub record IsDemonstrated (seed : ℕ) (before after : Outside) (result : Status) : Type 0 where
  pub between : Files
  pub generated_is : HasGenerated seed demo_instance before.files between
  pub reads_back : instance_in between demo_instance ≡ Ok (generated seed)
  pub answer : IsPlannedAndChecked seed (outside between before.printed) after result

-- ---- what is left

-- However it ends: what `generate` leaves, and once the instance's file is whole what `plan` leaves of the generated problem.
pub record LeavesDemo (seed : ℕ) (before after : Files) : Type 0 where
  pub between : Files
  pub generated_cut : LeavesGenerated seed demo_instance before between
  pub then : (after ≡ between) ⊎ (HasGenerated seed demo_instance before between × LeavesPlanned demo_plan demo_certificate demo_decisions (generated seed) between after)

-- An answer to a problem is written as by `plan`: both files are whole.
pub record HasAnswer (p : Instance) (before after : Files) : Type 0 where
  pub found : Found
  pub written : IsWritten demo_plan demo_certificate demo_decisions p before after found

-- Where a read failed, the instance's file is whole, and the other two are as before, or both whole.
pub record LeavesDemoUnread (seed : ℕ) (before after : Files) : Type 0 where
  pub between : Files
  pub generated_is : HasGenerated seed demo_instance before between
  pub then : (after ≡ between) ⊎ HasAnswer (generated seed) between after

-- ---- helping only: after the check

-- What was found of a problem is checked: a yes is said by the line of the demonstration, and anything else as `check` says it.
pub record IsConcluded (seed : ℕ) (p : Instance) (found : Found) (before after : Outside) (result : Status) : Type 0 where
  pub checked : Outside
  pub said : Status
  pub check_is : IsChecked demo_plan demo_certificate false p before checked said
  pub yes : said ≡ Status.Good → SaysDemo seed p found before after result
  pub other : said ≢ Status.Good → (after ≡ checked) × (result ≡ said)
