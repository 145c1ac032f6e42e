-- What `parts` answers, and what it leaves in the files.
use Rattle.std.specs.Prelude.{◌≡◌, ◌⊎◌, ◌++◌, ℕ, List, Ok, codes}
use Rattle.std.specs.Fmt.{decimal}
use Rattle.plan_io.specs.Files.{bytes_of, Files}
use Rattle.cluster.specs.declared.sets.NodeSet.{NodeSet}
use Rattle.catalogue.specs.Prelude.{Instance}
use Rattle.plan_json.specs.Prelude.{plan_of, plan_text}
use Rattle.partition.specs.Prelude.{Split}
use Rattle.solver.specs.Prelude.{plan_cost}
use Rattle.part_solver.specs.{declared.answer.WholeAnswer.WholeAnswer, Prelude.IsAnswered, Prelude.IsTrueOfWhole, Prelude.plan_answered}
use Rattle.command_frame.specs.{Answer.AnswersBy, Answer.LeavesBy, Answer.Outside, Outputs.AreTextsCut, Outputs.HasTexts, declared.status.Status.Status}
use Rattle.command_groups.specs.Splitting.{split_in}

-- ---- what is said

-- The line of an answer.
unfoldable pub whole_line : Instance → WholeAnswer → List ℕ
whole_line p (WholeAnswer.Infeasible i) = codes "infeasible\n"
whole_line p (WholeAnswer.Unmet i) = codes "undecided\n"
whole_line p (WholeAnswer.Optimal plan) = codes "optimal " ++ decimal (plan_cost p plan) ++ codes "\n"
whole_line p (WholeAnswer.Valid plan) = codes "undecided best " ++ decimal (plan_cost p plan) ++ codes "\n"

-- Its status.
abbrev pub whole_status : WholeAnswer → Status
whole_status (WholeAnswer.Infeasible i) = Status.Negative
whole_status (WholeAnswer.Unmet i) = Status.Undecided
whole_status (WholeAnswer.Optimal plan) = Status.Good
whole_status (WholeAnswer.Valid plan) = Status.Undecided

-- ---- the answer

-- The parts are solved one after the other, and what they say of the whole is so of all its plans. The certificates are written, and the plan of the whole, or
-- that there is none, which is read back. No other file changes, and the line says the answer.
pub record PlansParts (plan_file certificate : List ℕ) (budget : ℕ) (p : Instance) (groups : List NodeSet) (before after : Outside) (result : Status) : Type 0 where
  pub whole : WholeAnswer
  pub text : List ℕ
  pub split : Split p groups
  pub answered : IsAnswered p groups budget whole text
  pub true_of : IsTrueOfWhole p whole
  pub written : HasTexts certificate text plan_file (plan_text p (plan_answered whole)) before.files after.files
  pub reads : plan_of p (bytes_of (after.files plan_file)) ≡ Ok (plan_answered whole)
  pub printed : after.printed ≡ before.printed ++ whole_line p whole
  pub status : result ≡ whole_status whole

-- `parts` of a problem, by the groups in their file.
abbrev pub IsPlannedByParts : (groups_file plan_file certificate : List ℕ) → ℕ → Instance → Outside → Outside → Status → Type 0
IsPlannedByParts groups_file plan_file certificate budget p before after result =
    AnswersBy (PlansParts plan_file certificate budget p) (split_in p before.files groups_file) before after result

-- ---- what is left

-- The texts of an answer are cut: the plan's file is as before until the certificates are whole.
pub record IsAnswerCut (plan_file certificate : List ℕ) (budget : ℕ) (p : Instance) (groups : List NodeSet) (before after : Files) : Type 0 where
  pub whole : WholeAnswer
  pub text : List ℕ
  pub answered : IsAnswered p groups budget whole text
  pub cut : AreTextsCut certificate text plan_file (plan_text p (plan_answered whole)) before after

-- However it ends, all is as before, or the texts of an answer are cut.
abbrev pub LeavesPlans : (plan_file certificate : List ℕ) → ℕ → Instance → List NodeSet → Files → Files → Type 0
LeavesPlans plan_file certificate budget p groups before after = (after ≡ before) ⊎ IsAnswerCut plan_file certificate budget p groups before after

-- The same by the groups in their file. Where they are refused, all is as before.
abbrev pub LeavesPlannedByParts : (groups_file plan_file certificate : List ℕ) → ℕ → Instance → Files → Files → Type 0
LeavesPlannedByParts groups_file plan_file certificate budget p before after =
    LeavesBy (LeavesPlans plan_file certificate budget p) (split_in p before groups_file) before after
