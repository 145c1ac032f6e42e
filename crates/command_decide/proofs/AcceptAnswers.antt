-- What `plan` writes is accepted, and then `check` says yes.
use Rattle.std.proofs.Common.{◌≡◌, ◌∙◌, ℕ, Bool, List, Option, None, Some, Result, Ok, Err, option_map, refl, sym, ap, subst}
use Rattle.command_decide.specs.Prelude.{AnswersBy, any_plan_in, any_plan_lined, any_plan_reading_of, AreAccepted, bytes_of, CheckFault, Checks, choices_handed, choices_of, Files, Found, Goal, goal_in, Instance, IsChecked, IsYesUnlessOutside, least_in, Line, Memory, No, NotALine, Outside, plan_of, PlanChoices, ReadFault, Says, SaysGiven, Short, Status, TooLong, Verdict, verdict_line, WrittenIsAccepted, Yes, yes_to}
use Rattle.cert_read.specs.declared.line.LineFault.TheVariants.{Memory as NoRoom}
use Rattle.cert_check.specs.Laws.{IsAccepted}
use Rattle.search.specs.Answers.{plan_in}
use Rattle.solver.proofs.Public.{certified_is_accepted}

-- ---- the files

-- two ways to write the same
pub same_choices : (plan : Option PlanChoices) → option_map choices_of plan ≡ choices_handed plan
same_choices None = refl
same_choices (Some plan) = refl

plan_read_back : (p : Instance) (files : Files) (plan_file : List ℕ) (plan : Option PlanChoices) → plan_of p (bytes_of (files plan_file)) ≡ Ok plan → any_plan_in p files plan_file ≡ Ok (choices_handed plan)
unfolding any_plan_reading_of
plan_read_back p files plan_file plan reads = ap (any_plan_lined p) reads ∙ ap Ok (same_choices plan)

pub written_is_accepted : WrittenIsAccepted
written_is_accepted plan_file certificate budget few p before after found is = record {
  plan = plan_read_back p after plan_file (plan_in found) is.plan_reads;
  accepted = λ strict.
      subst (λ file. IsAccepted p (choices_handed (plan_in found)) strict file (goal_in p budget found) (least_in found)) (sym (ap bytes_of is.certified.whole))
      (certified_is_accepted p is.problem budget few found is.true_of is.certified.text is.certified.shows strict);
}

-- ---- what `check` says

yes_is_said : (goal : Goal) (least : Option ℕ) (given : Result Verdict CheckFault) (before after : Outside) (result : Status) → IsYesUnlessOutside goal least given → SaysGiven given before after result → Says (verdict_line (Yes goal least)) Status.Good before after result
yes_is_said goal least (Ok (Yes shown low)) before after result is says =
    subst (λ g. Says (verdict_line (Yes g least)) Status.Good before after result) is.0 (subst (λ l. Says (verdict_line (Yes shown l)) Status.Good before after result) is.1 says)
yes_is_said goal least (Ok (No line why)) before after result is says = absurd is
yes_is_said goal least (Err (Line (NotALine n))) before after result is says = absurd is
yes_is_said goal least (Err (Line (TooLong n))) before after result is says = absurd is
yes_is_said goal least (Err (Line Short)) before after result is says = absurd is
yes_is_said goal least (Err (Line ReadFault)) before after result is says = absurd says
yes_is_said goal least (Err (Line NoRoom)) before after result is says = absurd says
yes_is_said goal least (Err Memory) before after result is says = absurd says

pub checked_is_yes : (plan_file certificate : List ℕ) (budget : ℕ) (p : Instance) (found : Found) (strict : Bool) (before after : Outside) (result : Status) → AreAccepted plan_file certificate budget p found before.files → IsChecked plan_file certificate strict p before after result →
    Says (verdict_line (yes_to p budget found)) Status.Good before after result
checked_is_yes plan_file certificate budget p found strict before after result are checked =
    let checks : Checks p certificate strict (choices_handed (plan_in found)) before after result = subst (λ reading. AnswersBy (Checks p certificate strict) reading before after result) are.plan checked in
    yes_is_said (goal_in p budget found) (least_in found) checks.given before after result ((are.accepted strict).alone checks.given checks.gives) checks.says
