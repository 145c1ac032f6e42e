-- The verdict on one section.
use Rattle.base.proofs.Public.{◌≡◌, inr, ℕ, false, List, Some, None, Result, Ok, Err, IfOk, sym, subst}
use Rattle.cluster.specs.declared.sets.NodeSet.{NodeSet}
use Rattle.catalogue.specs.Prelude.{Instance}
use Rattle.slices.specs.Prelude.{choices_of, IsInfeasible, IsOptimal, IsPlanOf}
use Rattle.slices.specs.Plans.{PlanChoices}
use Rattle.parts.specs.Parts.{part_of}
use Rattle.partition.specs.Plans.{IsPartPlan}
use Rattle.cert_parts.specs.Sections.{section_of}
use Rattle.cert_check.specs.Verdicts.{CheckGives, IsSound}
use Rattle.cert_check.specs.declared.verdict.CheckFault.{CheckFault}
use Rattle.cert_check.specs.declared.verdict.Verdict.{Verdict}
use Rattle.cert_check.specs.declared.verdict.Verdict.TheVariants.{Yes, No}
use Rattle.trees.specs.declared.steps.Goal.TheVariants.{Optimal, Infeasible, Undecided}
use Rattle.part_check.specs.Judging.{IsSoundOfPart}
use Rattle.part_check.specs.Verdicts.{SectionGives}

module _ (p : Instance) (groups : List NodeSet) (i : ℕ) (q : Instance) (same : q ≡ part_of p groups i) where
  -- for the plan of the part
  pub planned_gives : (plan own : PlanChoices) → IsPartPlan p groups i (choices_of plan) own → (body : List ℕ) (given : Result Verdict CheckFault) → CheckGives q (Some (choices_of own)) false body given → SectionGives p groups (Some plan) (section_of i body) given
  planned_gives plan own is body given gives = inr (record { own = own; own_is = is; gives = subst (λ (x : Instance). CheckGives x (Some (choices_of own)) false body given) same gives })

  verdict_sound : (plan own : PlanChoices) → IsPartPlan p groups i (choices_of plan) own → (verdict : Verdict) → IsSound q (Some (choices_of own)) verdict → IsSoundOfPart p groups (Some plan) i verdict
  verdict_sound plan own is (Yes (Optimal cost) least) sound = record { own = own; own_is = is; optimal = subst (λ (x : Instance). IsOptimal x (choices_of own)) same sound.holds.0 }
  verdict_sound plan own is (Yes Infeasible least) sound = subst IsInfeasible same sound.holds
  verdict_sound plan own is (Yes (Undecided count) least) sound = tt
  verdict_sound plan own is (No line why) sound = tt

  pub planned_sound : (plan own : PlanChoices) → IsPartPlan p groups i (choices_of plan) own → (given : Result Verdict CheckFault) → IfOk given (IsSound q (Some (choices_of own))) → IfOk given (IsSoundOfPart p groups (Some plan) i)
  planned_sound plan own is (Ok verdict) sound = verdict_sound plan own is verdict sound
  planned_sound plan own is (Err fault) sound = tt

  pub own_plan : (plan own : PlanChoices) → IsPartPlan p groups i (choices_of plan) own → IsPlanOf q own
  own_plan plan own is = subst (λ (x : Instance). IsPlanOf x own) (sym same) is.plan_is

  -- for none
  pub alone_gives : (body : List ℕ) (given : Result Verdict CheckFault) → CheckGives q None false body given → SectionGives p groups None (section_of i body) given
  alone_gives body given gives = subst (λ (x : Instance). CheckGives x None false body given) same gives

  none_sound : (verdict : Verdict) → IsSound q None verdict → IsSoundOfPart p groups None i verdict
  none_sound (Yes (Optimal cost) least) sound = sound.holds
  none_sound (Yes Infeasible least) sound = subst IsInfeasible same sound.holds
  none_sound (Yes (Undecided count) least) sound = tt
  none_sound (No line why) sound = tt

  pub alone_sound : (given : Result Verdict CheckFault) → IfOk given (IsSound q None) → IfOk given (IsSoundOfPart p groups None i)
  alone_sound (Ok verdict) sound = none_sound verdict sound
  alone_sound (Err fault) sound = tt
