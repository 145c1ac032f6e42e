-- Where each section has one verdict, and it is yes, so it is with the text.
use Rattle.base.proofs.Public.{◌≡◌, ◌∙◌, ℕ, List, [], ◌∷◌, ◌++◌, Option, Result, Ok, Err, refl, ap, ap₂, subst}
use Rattle.std.specs.List.{AllZip}
use Rattle.cluster.specs.declared.sets.NodeSet.{NodeSet}
use Rattle.catalogue.specs.Prelude.{Instance}
use Rattle.slices.specs.Plans.{PlanChoices}
use Rattle.cert_parts.specs.Sections.{SectionText}
use Rattle.cert_parts.proofs.Public.{texts_are_cut_one_way}
use Rattle.cert_check.specs.Laws.{IsYesUnlessOutside as IsYesOfPart}
use Rattle.cert_check.specs.declared.verdict.CheckFault.{CheckFault}
use Rattle.cert_check.specs.declared.verdict.Verdict.{Verdict}
use Rattle.cert_check.specs.declared.verdict.Verdict.TheVariants as said
use Rattle.trees.specs.declared.steps.Goal.{Goal}
use Rattle.part_check.specs.declared.verdict.PartsFault.{PartsFault}
use Rattle.part_check.specs.declared.verdict.PartsFault.TheVariants.{Line, Memory}
use Rattle.part_check.specs.declared.verdict.PartsVerdict.{PartsVerdict}
use Rattle.part_check.specs.declared.verdict.PartsVerdict.TheVariants.{Yes, NoSections, No}
use Rattle.part_laws.specs.Laws.{TextIsAccepted, IsYesOfWhole}
use Rattle.part_check.specs.Verdicts.{GivesOfParts, goal_of_all, HasSections, SaysYes, SectionGives, StopsAt}

-- the section says yes to this goal, and has no other verdict
pub record HasOneVerdict (p : Instance) (groups : List NodeSet) (plan : Option PlanChoices) (s : SectionText) (goal : Goal) : Type 0 where
  pub least : Option ℕ
  pub yes : SectionGives p groups plan s (Ok (said.Yes goal least))
  pub alone : (given : Result Verdict CheckFault) → SectionGives p groups plan s given → IsYesOfPart goal least given

-- the goal beside a section
zip_within : (IsSo : SectionText → Goal → Type 0) (before : List SectionText) (s : SectionText) (after : List SectionText) (goals : List Goal) → AllZip IsSo (before ++ s ∷ after) goals → (goal : Goal) × IsSo s goal
zip_within IsSo [] s after [] so = absurd so
zip_within IsSo [] s after (goal ∷ goals) so = (goal, so.0)
zip_within IsSo (x ∷ before) s after [] so = absurd so
zip_within IsSo (x ∷ before) s after (goal ∷ goals) so = zip_within IsSo before s after goals so.1

module _ (p : Instance) (groups : List NodeSet) (plan : Option PlanChoices) where
  all_yes : (sections : List SectionText) (goals : List Goal) → AllZip (HasOneVerdict p groups plan) sections goals → AllZip (SaysYes p groups plan) sections goals
  all_yes [] [] one = tt
  all_yes [] (goal ∷ goals) one = absurd one
  all_yes (s ∷ sections) [] one = absurd one
  all_yes (s ∷ sections) (goal ∷ goals) one = ((one.0.least, one.0.yes), all_yes sections goals one.1)

  same_goals : (sections : List SectionText) (goals others : List Goal) → AllZip (HasOneVerdict p groups plan) sections goals → AllZip (SaysYes p groups plan) sections others → others ≡ goals
  same_goals [] [] [] one other = refl
  same_goals [] [] (goal ∷ others) one other = absurd other
  same_goals [] (goal ∷ goals) others one other = absurd one
  same_goals (s ∷ sections) [] others one other = absurd one
  same_goals (s ∷ sections) (goal ∷ goals) [] one other = absurd other
  same_goals (s ∷ sections) (goal ∷ goals) (shown ∷ others) one other =
      ap₂ (λ (x : Goal) (l : List Goal). x ∷ l) (one.0.alone (Ok (said.Yes shown other.0.0)) other.0.1).0 (same_goals sections goals others one.1 other.1)

  stops_outside : (sections : List SectionText) (goals : List Goal) → AllZip (HasOneVerdict p groups plan) sections goals → (part : ℕ) (given : Result Verdict CheckFault) → StopsAt p groups plan sections part given → (goal : Goal) × (least : Option ℕ) × IsYesOfPart goal least given
  stops_outside sections goals one part given stops =
      let all = subst (λ (l : List SectionText). AllZip (HasOneVerdict p groups plan) l goals) stops.stands one in
      let here = zip_within (HasOneVerdict p groups plan) stops.before (record { part = part; body = stops.body }) stops.after goals all in
      (here.0, here.1.least, here.1.alone given stops.gives)

  pub all_accepted : (text : List ℕ) (sections : List SectionText) → HasSections groups plan text sections → (goals : List Goal) → AllZip (HasOneVerdict p groups plan) sections goals → TextIsAccepted p groups plan text (goal_of_all p plan goals)
  all_accepted text sections has goals one = record {
    yes = record { sections = sections; has = has; give = record { goals = goals; yes = all_yes sections goals one; shown = refl } };
    alone = alone;
  }
    where
      here : (l : List SectionText) → HasSections groups plan text l → AllZip (HasOneVerdict p groups plan) l goals
      here l other = subst (λ (x : List SectionText). AllZip (HasOneVerdict p groups plan) x goals) (texts_are_cut_one_way text sections l has.cut other.cut) one

      alone : (answer : Result PartsVerdict PartsFault) → GivesOfParts p groups plan text answer → IsYesOfWhole (goal_of_all p plan goals) answer
      alone (Ok (Yes shown)) gives = gives.give.shown ∙ ap (goal_of_all p plan) (same_goals gives.sections goals gives.give.goals (here gives.sections gives.has) gives.give.yes)
      alone (Ok NoSections) gives = gives sections has
      alone (Ok (No part line why)) gives = (stops_outside gives.sections goals (here gives.sections gives.has) part _ gives.give).2
      alone (Err (Line part fault)) gives = (stops_outside gives.sections goals (here gives.sections gives.has) part _ gives.give).2
      alone (Err Memory) gives = tt
