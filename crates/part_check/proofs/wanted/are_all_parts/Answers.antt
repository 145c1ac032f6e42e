use Rattle.base.proofs.Public.{◌∙◌, eq-eqb, eqb-true, sym}
use Rattle.part_check.proofs.WantedLemmas.{all_parts, are_all}
use Rattle.part_check.proofs.wanted.are_all_parts.Goals as goal

pub returns-then-sections-count : goal.returns-then-sections-count
returns-then-sections-count c =
    let count = c.args.count in
    let sections = c.args.sections.now in
    ((λ ordered. all_parts count sections c.if-sections-count.true (sym c.are_in_order.ensures ∙ ordered)), (λ is. c.are_in_order.ensures ∙ (are_all count sections is).1))

pub returns-else-sections-count : goal.returns-else-sections-count
returns-else-sections-count c =
    let count = c.args.count in
    let sections = c.args.sections.now in
    ((λ same. absurd (c.if-sections-count.false (eqb-true _ _ same))), (λ is. eq-eqb _ _ (are_all count sections is).0))
