-- What a solver does that certifies an answer to a problem.
use Rattle.std.specs.Prelude.{All, ◌≡◌, Bool, ℕ, List, Option, Some, Result, IfOk, IsTrue}
use Rattle.search.specs.Prelude.{choices_of, cost_of, CountsWrites, goal_in, HasStep, Instance, IsStayingPlan, IsTreeOf, IsTrueOf, MayStay, PlanChoices, steps_of, Tree}
use Rattle.plan_io.specs.{Prelude.Files, Prelude.IsCut, Prelude.OthersStay, declared.faults.OutFault.OutFault}
use Rattle.trees.specs.declared.steps.{Goal.Goal, Step.Step}
use Rattle.cert_text.specs.{Prelude.IsGoal, Spelling.certificate_text}
use Rattle.search.specs.declared.found.Found.{Found, TheVariants.Optimal}

abbrev pub plan_cost : Instance → PlanChoices → ℕ
plan_cost p plan = cost_of p (choices_of plan)

-- ---- the certificate

-- The text of one tree that shows the answer, with its goal.
pub record IsCertifiedText (p : Instance) (budget : ℕ) (found : Found) (text : List ℕ) : Type 0 where
  pub tree : Tree
  pub tree_is : IsTreeOf p budget found tree
  pub whole : text ≡ certificate_text p (steps_of tree) (goal_in p budget found)

-- The certificate is whole: the file holds such a text.
pub record IsCertified (p : Instance) (budget : ℕ) (found : Found) (certificate : Option (List ℕ)) : Type 0 where
  pub text : List ℕ
  pub shows : IsCertifiedText p budget found text
  pub whole : certificate ≡ Some text

-- The certificate is as before, absent, empty or a prefix of the text of some steps of the problem and a goal that can be written.
pub record IsCertificateCut (p : Instance) (before after : Option (List ℕ)) : Type 0 where
  pub steps : List Step
  pub named : All (HasStep p) steps
  pub goal : Goal
  pub goal_is : IsGoal goal
  pub cut : IsCut before (certificate_text p steps goal) after

-- ---- the answer

-- The answer is a valid plan in which each element is idle, and it costs nothing.
pub record IsToStay (p : Instance) (found : Found) : Type 0 where
  pub plan : PlanChoices
  pub found_is : found ≡ Optimal plan
  pub stays : IsStayingPlan p plan
  pub costs : plan_cost p plan ≡ 0

-- What a solver does that certifies an answer to a problem. The certificate is whole, the answer is so of all plans of the problem, and where staying is a valid plan it is the answer.
-- However it ends, no other file changes and what is left of the certificate is a prefix of one; `Failed` comes only where the count of failed writes rose, and no read fails.
-- D has the desks; the three functions are what is seen of one: its files, and how many reads and writes failed.
pub record Certifies {D : Type 0} (p : Instance) (budget : ℕ) (certificate : List ℕ) (tells : Bool) (files : D → Files) (read_faults write_faults : D → ℕ) (old new : D) (result : Result Found OutFault) : Type 0 where
  pub whole : IsTrue tells → IfOk result (λ found. IsCertified p budget found (files new certificate))
  pub cut : IsTrue tells → IsCertificateCut p (files old certificate) (files new certificate)
  pub others : IsTrue tells → OthersStay certificate (files old) (files new)
  pub true_of : IfOk result (IsTrueOf p budget)
  pub stays : MayStay p → IfOk result (IsToStay p)
  pub cause : CountsWrites (write_faults old) (write_faults new) result
  pub reads_kept : read_faults new ≡ read_faults old
