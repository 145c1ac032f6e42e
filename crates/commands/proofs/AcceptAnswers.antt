-- `check` says yes to the files that `plan` and `explain` write.
use Rattle.std.proofs.Common.{◌≡◌, ◌∙◌, ℕ, ◌<◌, ◌≤◌, ◌^◌, Bool, List, length, Option, None, Some, Ok, refl, sym, ap, subst}
use Rattle.commands.specs.Prelude.{AnswersBy, any_plan_in, AreAccepted, bytes_of, choices_handed, check, ExplainedIsChecked, Files, Found, goal_in, Infeasible, Instance, instance_in, instance_text, IsAnswer, IsCertifiedText, IsChecked, IsInstance, IsTrueOf, least_in, LeftOpenIsChecked, lined, max_text_bytes, Outside, plan_in, PlanChoices, PlannedIsChecked, reading_of, Says, Status, sub, Undecided, verdict_line, WritesKept, yes_to}
use Rattle.cert_check.specs.Laws.{IsAccepted}
use Rattle.solver.proofs.Public.{certified_is_accepted}
use Rattle.command_decide.proofs.Public.{checked_is_yes, written_is_accepted}

pub planned_is_checked : PlannedIsChecked
unfolding IsAnswer
planned_is_checked instance plan_file certificate budget few not_plan not_certificate p before between said read planned start after source strict result files answer =
    let are : AreAccepted plan_file certificate budget p planned.found start.files =
    subst (AreAccepted plan_file certificate budget p planned.found) (sym files) (written_is_accepted plan_file certificate budget few p before.files between.files planned.found planned.written) in
    let kept : start.files instance ≡ before.files instance = ap (λ (fs : Files). fs instance) files ∙ planned.written.others instance not_plan not_certificate in
    let read_again : instance_in start.files instance ≡ Ok p = ap (λ file. reading_of (bytes_of file)) kept ∙ read in
    checked_is_yes plan_file certificate budget p planned.found strict start after result are (subst (λ reading. AnswersBy (IsChecked plan_file certificate strict) reading start after result) read_again answer)

-- ---- the files of a core

-- for what was found of a problem, without a plan, `check` of its text, of the text of its certificate and of no plan says that yes
module _ (core certificate : List ℕ) (budget : ℕ) (few : budget < 2 ^ 64) (q : Instance) (found : Found) (text : List ℕ) (so : IsTrueOf q budget found) (certified : IsCertifiedText q budget found text) where
  kept_is_checked : (p : Instance) (kept : List ℕ) (before between : Files) → q ≡ sub p kept → WritesKept core certificate p kept text before between → length (instance_text (sub p kept)) ≤ max_text_bytes → plan_in found ≡ None →
      (plan_file : List ℕ) (start after : Outside) (source : Option (List ℕ)) (strict : Bool) (result : Status) → start.files core ≡ between core → start.files certificate ≡ between certificate → any_plan_in q start.files plan_file ≡ Ok None →
      IsAnswer (Some (check core plan_file certificate strict)) source start after result → Says (verdict_line (yes_to q budget found)) Status.Good start after result
  unfolding IsAnswer reading_of
  kept_is_checked p kept before between same written fits no_plan plan_file start after source strict result core_stays certificate_stays none answer =
      let there : bytes_of (start.files certificate) ≡ text = ap bytes_of (certificate_stays ∙ written.written.second_whole) in
      let read : instance_in start.files core ≡ Ok q = ap (λ file. reading_of (bytes_of file)) core_stays ∙ ap lined (written.reads fits) ∙ ap Ok (sym same) in
      let sound : IsInstance q = subst IsInstance (sym same) written.sound in
      let are : AreAccepted plan_file certificate budget q found start.files = record {
        plan = none ∙ ap (λ (plan : Option PlanChoices). Ok (choices_handed plan)) (sym no_plan);
        accepted = λ some. subst (λ (file : List ℕ). IsAccepted q (choices_handed (plan_in found)) some file (goal_in q budget found) (least_in found)) (sym there)
            (certified_is_accepted q sound budget few found so text certified some);
      } in
      checked_is_yes plan_file certificate budget q found strict start after result are (subst (λ reading. AnswersBy (IsChecked plan_file certificate strict) reading start after result) read answer)

pub explained_is_checked : ExplainedIsChecked
explained_is_checked core certificate budget few p before between said is fits plan_file start after source strict result core_stays certificate_stays none answer =
    kept_is_checked core certificate budget few (sub p is.kept) Infeasible is.text is.is_core.core.infeasible is.is_core.core.certified p is.kept before.files between.files refl is.written fits refl
    plan_file start after source strict result core_stays certificate_stays none answer

pub left_open_is_checked : LeftOpenIsChecked
left_open_is_checked core certificate budget few p before between said is fits plan_file start after source strict result core_stays certificate_stays none answer =
    kept_is_checked core certificate budget few (sub p is.kept) (Undecided None is.is_open.left.least) is.text (record { large = is.is_open.left.large; best_is = tt; least_is = is.is_open.left.least_is }) is.is_open.left.certified p is.kept before.files between.files refl is.written fits refl
    plan_file start after source strict result core_stays certificate_stays none answer
