use Rattle.base.proofs.Public.{◌<◌, err_from_is_err_and, length, Ok, option_copied, subst, sym, arith, ℕ}
use Rattle.slices.specs.Plans.{IsPlanOf}
use Rattle.cert_parts.specs.Sections.{SectionText}
use Rattle.cert_check.specs.declared.verdict.Verdict.{Verdict}
use Rattle.cert_check.specs.declared.verdict.Verdict.TheVariants.{No}
use Rattle.part_check.specs.declared.verdict.PartsVerdict.TheVariants.{Yes}
use Rattle.part_check.specs.declared.verdict.WholeGoal.{WholeGoal}
use Rattle.part_check.specs.Judging.{IsSoundOfPart}
use Rattle.part_check.specs.Verdicts.{IsSoundOfWhole, SectionGives, StopsAt}
use Rattle.part_check.proofs.SectionLemmas.{all_taken, fault_gives, stops_at, taken_more}
use Rattle.part_check.proofs.WantedLemmas.{part_there}
use Rattle.part_check.proofs.WholeLemmas.{handed_plan, whole_sound}
use Rattle.part_check.proofs.sections.judge_sections.Goals as goal

pub judge_section-requires-clause-part : goal.judge_section-requires-clause-part
judge_section-requires-clause-part g c =
    let groups = c.args.groups.now in
    let sections = c.args.sections.now in
    let within : c.sections.section-index < length sections = omega arith in
    subst (λ (s : SectionText). s.part < length groups) (sym c.section-item.is) (part_there groups (option_copied c.args.plan) sections c.requires.wanted c.sections.section-index c.section-item.result within)

pub returns-in_err-goal-clause-give : goal.returns-in_err-goal-clause-give
returns-in_err-goal-clause-give g c =
    let p = c.args.p.now.given in
    let groups = c.args.groups.now in
    let plan = option_copied c.args.plan in
    let sections = c.args.sections.now in
    let within : c.sections.section-index < length sections = omega arith in
    let q = err_from_is_err_and c.from_residual.result c.from_residual.ensures.1 in
    rw (q.1, q.2) (fault_gives p groups plan sections c.sections.section-index c.section-item.result c.sections.seen within c.section-item.is c.sections.invariant c.in_err-goal.field-0.0 c.in_err-goal.ensures.fault)

pub returns-in-No-clause-give : goal.returns-in-No-clause-give
returns-in-No-clause-give g c =
    let p = c.args.p.now.given in
    let groups = c.args.groups.now in
    let plan = option_copied c.args.plan in
    let sections = c.args.sections.now in
    let within : c.sections.section-index < length sections = omega arith in
    let gives = subst (λ (v : Verdict). SectionGives p groups plan c.section-item.result (Ok v)) c.in-No.is c.in_ok-goal.ensures.gives in
    subst (λ (x : ℕ). StopsAt p groups plan sections x (Ok (No c.in-No.line c.in-No.why))) (sym c.part.ensures)
    (stops_at p groups plan sections c.sections.section-index c.section-item.result c.sections.seen (Ok (No c.in-No.line c.in-No.why)) within c.section-item.is c.sections.invariant gives)

pub sections-preserved : goal.sections-preserved
sections-preserved g c =
    let p = c.args.p.now.given in
    let groups = c.args.groups.now in
    let plan = option_copied c.args.plan in
    let sections = c.args.sections.now in
    let within : c.sections.section-index < length sections = omega arith in
    let gives = subst (λ (v : Verdict). SectionGives p groups plan c.section-item.result (Ok v)) c.in-Yes.is c.in_ok-goal.ensures.gives in
    let so = subst (IsSoundOfPart p groups plan c.section-item.result.part) c.in-Yes.is c.in_ok-goal.ensures.sound in
    taken_more p groups plan sections c.sections.section-index c.section-item.result c.sections.seen c.with-seen.result c.in-Yes.goal c.in-Yes.least within c.section-item.is c.sections.invariant gives so c.with-seen.ensures

pub returns-clause-sound : goal.returns-clause-sound
returns-clause-sound g c =
    let p = c.args.p.now.given in
    let groups = c.args.groups.now in
    let plan = option_copied c.args.plan in
    let sections = c.args.sections.now in
    let taken = all_taken p groups plan sections c.sections.section-index c.sections.seen (omega arith) c.sections.invariant in
    subst (λ (goal : WholeGoal). IsSoundOfWhole p plan (Yes goal)) (sym (c.whole_goal.ensures taken.goals taken.seen_is))
    (whole_sound p groups c.requires.split.split plan (handed_plan (IsPlanOf p) c.args.plan c.requires.plan) sections c.requires.wanted taken.goals taken.so)
