-- What `parts` answers and leaves, by the groups and by what was found of the parts.
use Rattle.base.proofs.Public.{◌≡◌, ◌∙◌, ℕ, List, ◌++◌, Result, Ok, Err, IfSome, inr, ap}
use Rattle.command_frame.proofs.Public.{answers_refused, answers_well, ends_more, says}
use Rattle.command_parts.specs.Prelude.{AreTextsCut, bytes_of, Ending, Ends, Fault, Files, HasTexts, Instance, IsAnswered, IsPlannedByParts, IsPlanOf, IsTrueOfWhole, LeavesPlans, NodeSet, outside, plan_of, plan_text, PlansParts, Split, split_in, Status, WholeAnswer, whole_line, plan_answered, whole_status}

-- ---- the answer

-- its plan is whole
pub answered_plan : (p : Instance) (whole : WholeAnswer) → IsTrueOfWhole p whole → IfSome (plan_answered whole) (IsPlanOf p)
answered_plan p (WholeAnswer.Infeasible i) is = tt
answered_plan p (WholeAnswer.Unmet i) is = tt
answered_plan p (WholeAnswer.Optimal plan) is = is.0
answered_plan p (WholeAnswer.Valid plan) is = is.whole

-- it is written, and its line is said
pub plans : (plan_file certificate : List ℕ) (budget : ℕ) (p : Instance) (groups : List NodeSet) (whole : WholeAnswer) (text : List ℕ) (before after : Files) (printed line : List ℕ) (said : Status) → Split p groups →
    IsAnswered p groups budget whole text → IsTrueOfWhole p whole → HasTexts certificate text plan_file (plan_text p (plan_answered whole)) before after → plan_of p (plan_text p (plan_answered whole)) ≡ Ok (plan_answered whole) →
    line ≡ whole_line p whole → said ≡ whole_status whole → PlansParts plan_file certificate budget p groups (outside before printed) (outside after (printed ++ line)) said
plans plan_file certificate budget p groups whole text before after printed line said split answered is written reads said_is status_is = record {
  whole = whole;
  text = text;
  split = split;
  answered = answered;
  true_of = is;
  written = written;
  reads = ap (λ file. plan_of p (bytes_of file)) written.second_whole ∙ reads;
  printed = ap (λ l. printed ++ l) said_is;
  status = status_is;
}

-- what is left where an answer was to be written
pub leaves_answer : (plan_file certificate : List ℕ) (budget : ℕ) (p : Instance) (groups : List NodeSet) (whole : WholeAnswer) (text : List ℕ) (before after : Files) → IsAnswered p groups budget whole text →
    AreTextsCut certificate text plan_file (plan_text p (plan_answered whole)) before after → LeavesPlans plan_file certificate budget p groups before after
leaves_answer plan_file certificate budget p groups whole text before after answered cut = inr (record { whole = whole; text = text; answered = answered; cut = cut })

-- ---- by the file of the groups

-- the line that refuses them
pub refused_groups : (groups_file plan_file certificate : List ℕ) (budget : ℕ) (p : Instance) (before after : Files) (printed line : List ℕ) → after ≡ before → split_in p before groups_file ≡ Err line →
    IsPlannedByParts groups_file plan_file certificate budget p (outside before printed) (outside after (printed ++ line)) Status.Input
refused_groups groups_file plan_file certificate budget p before after printed line kept read =
    answers_refused (PlansParts plan_file certificate budget p) _ line _ _ _ read (says line Status.Input before after printed kept)

-- how it ends where they split the problem
pub ends_split : (groups_file plan_file certificate : List ℕ) (budget : ℕ) (p : Instance) (groups : List NodeSet) (before between after : Files) (printed : List ℕ) (ended : Result Ending Fault) → between ≡ before → split_in p before groups_file ≡ Ok groups →
    Ends (PlansParts plan_file certificate budget p groups (outside between printed)) (outside after printed) ended → Ends (IsPlannedByParts groups_file plan_file certificate budget p (outside before printed)) (outside after printed) ended
ends_split groups_file plan_file certificate budget p groups before between after printed ended kept read ends =
    ends_more (PlansParts plan_file certificate budget p groups (outside before printed)) (IsPlannedByParts groups_file plan_file certificate budget p (outside before printed)) (outside after printed) ended
    (λ then result is. answers_well (PlansParts plan_file certificate budget p) _ groups _ _ _ read is) (rw kept at ends)
