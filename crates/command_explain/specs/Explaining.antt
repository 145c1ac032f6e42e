-- What `explain` answers, and what it leaves in the files.
use Rattle.std.specs.Prelude.{◌≡◌, ◌⊎◌, ◌++◌, ◌≤◌, ℕ, List, length, Ok, codes}
use Rattle.std.specs.{Fmt.decimal, List.flat_map, List.zip}
use Rattle.plan_io.specs.Files.{bytes_of, Files}
use Rattle.catalogue.specs.Instance.{Instance}
use Rattle.search.specs.Prelude.{IsInstance, IsValidPlan, PlanChoices}
use Rattle.instance_make.specs.Prelude.{instance_of, instance_text, max_text_bytes}
use Rattle.explain.specs.Prelude.{IsCore, IsLeftOpen, sub}
use Rattle.solver.specs.Prelude.{plan_cost}
use Rattle.command_frame.specs.{Answer.Outside, Answer.Says, Outputs.AreTextsCut, Outputs.HasTexts, declared.status.Status.Status}

-- ---- what is said

-- The line of a constraint that is needed: its number in the instance, and the cost of a valid plan without it.
abbrev pub needed_line : (number cost : ℕ) → List ℕ
needed_line number cost = codes "needed " ++ decimal number ++ codes " cost " ++ decimal cost ++ codes "\n"

-- The lines of constraints that are needed, in order.
unfoldable pub needed_lines : (kept costs : List ℕ) → List ℕ
needed_lines kept costs = flat_map (λ x. needed_line x.0 x.1) (zip kept costs)

-- The lines of a core: those of its constraints, and how many these are.
unfoldable pub core_lines : (kept costs : List ℕ) → List ℕ
core_lines kept costs = needed_lines kept costs ++ codes "explained " ++ decimal (length kept) ++ codes "\n"

-- The line where there is a valid plan, with its cost.
unfoldable pub feasible_line : ℕ → List ℕ
feasible_line cost = codes "feasible " ++ decimal cost ++ codes "\n"

-- The line where a search stayed undecided, with the number of constraints that were kept.
unfoldable pub open_line : ℕ → List ℕ
open_line count = codes "undecided " ++ decimal count ++ codes "\n"

-- ---- what is written

-- The problem of the constraints that are kept is written, and the text of a certificate of it. The problem is sound, and is read back where it has no more
-- bytes than an instance may have.
pub record WritesKept (core certificate : List ℕ) (p : Instance) (kept text : List ℕ) (before after : Files) : Type 0 where
  pub sound : IsInstance (sub p kept)
  pub written : HasTexts core (instance_text (sub p kept)) certificate text before after
  pub reads : length (instance_text (sub p kept)) ≤ max_text_bytes → instance_of (bytes_of (after core)) ≡ Ok (sub p kept)

-- ---- the answer

-- There is a valid plan. Its cost is said, and no file changes.
pub record SaysFeasible (p : Instance) (before after : Outside) (result : Status) : Type 0 where
  pub plan : PlanChoices
  pub valid_plan : IsValidPlan p plan
  pub says : Says (feasible_line (plan_cost p plan)) Status.Negative before after result

-- There is none, and these constraints alone are why: without any one of them there is a valid plan, whose cost is said. They are written, with the certificate.
pub record SaysCore (core certificate : List ℕ) (budget : ℕ) (p : Instance) (before after : Outside) (result : Status) : Type 0 where
  pub kept : List ℕ
  pub text : List ℕ
  pub costs : List ℕ
  pub is_core : IsCore p budget kept text costs
  pub written : WritesKept core certificate p kept text before.files after.files
  pub printed : after.printed ≡ before.printed ++ core_lines kept costs
  pub status : result ≡ Status.Good

-- A search stayed undecided, by these constraints. They are written, with its certificate.
pub record SaysOpen (core certificate : List ℕ) (budget : ℕ) (p : Instance) (before after : Outside) (result : Status) : Type 0 where
  pub kept : List ℕ
  pub text : List ℕ
  pub is_open : IsLeftOpen p budget kept text
  pub written : WritesKept core certificate p kept text before.files after.files
  pub printed : after.printed ≡ before.printed ++ open_line (length kept)
  pub status : result ≡ Status.Undecided

-- `explain` of a problem.
unfoldable pub IsExplained : (core certificate : List ℕ) → ℕ → Instance → Outside → Outside → Status → Type 0
IsExplained core certificate budget p before after result =
    SaysFeasible p before after result ⊎ (SaysCore core certificate budget p before after result ⊎ SaysOpen core certificate budget p before after result)

-- ---- what is left

-- The constraints of a core, or those by which a search stayed undecided, with the text of their certificate: the texts of both files are cut.
pub record IsKeptCut (core certificate : List ℕ) (budget : ℕ) (p : Instance) (before after : Files) : Type 0 where
  pub kept : List ℕ
  pub text : List ℕ
  pub explains : ((costs : List ℕ) × IsCore p budget kept text costs) ⊎ IsLeftOpen p budget kept text
  pub cut : AreTextsCut core (instance_text (sub p kept)) certificate text before after

-- However it ends, all is as before, or the texts are cut: the certificate's file is as before until the other is whole.
abbrev pub LeavesExplained : (core certificate : List ℕ) → ℕ → Instance → Files → Files → Type 0
LeavesExplained core certificate budget p before after = (after ≡ before) ⊎ IsKeptCut core certificate budget p before after
