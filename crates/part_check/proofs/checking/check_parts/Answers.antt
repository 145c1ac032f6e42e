use Rattle.base.proofs.Public.{◌∙◌, false≢true, option_copied, sym}
use Rattle.part_check.proofs.SectionLemmas.{none_wanted}
use Rattle.part_check.proofs.checking.check_parts.Goals as goal

pub returns-then-not-are_wanted-clause-verdict : goal.returns-then-not-are_wanted-clause-verdict
returns-then-not-are_wanted-clause-verdict g c = λ some.
    let groups = c.args.groups.now in
    let plan = option_copied c.args.plan in
    let cut = rw c.in-Some.is at c.in_ok-sections.ensures.cut in
    none_wanted groups plan c.args.text.now c.in-Some.sections.items cut
    (λ wanted. false≢true (sym c.if-not-are_wanted.true ∙ c.are_wanted.ensures.1 (rw c.deref.ensures.value wanted)))
