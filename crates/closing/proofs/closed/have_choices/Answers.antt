use Rattle.closing.proofs.Prelude.{ap, arith, sym, ◌∙◌, choices, node, vm}
use Rattle.closing.proofs.closed.have_choices.Goals as goal

pub returns-then-is_empty-clause-no : goal.returns-then-is_empty-clause-no
returns-then-is_empty-clause-no c =
    λ _ have. have (vm c.loop-v.v) (omega arith) (sym (ap choices c.domain.ensures.domain) ∙ c.is_empty.ensures.0 c.if-is_empty.true)

pub returns-then-is_empty-2-clause-no : goal.returns-then-is_empty-2-clause-no
returns-then-is_empty-2-clause-no c =
    λ _ have. have (node c.loop-n.n) (omega arith) (sym (ap choices c.domain-in-loop-n.ensures.domain) ∙ c.is_empty-in-loop-n.ensures.0 c.if-is_empty-2.true)
