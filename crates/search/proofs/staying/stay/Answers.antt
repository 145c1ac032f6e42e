use Rattle.std.proofs.Common.{[], ◌∷◌, ap, rules}
use Rattle.search.specs.Prelude.{bytes_of, Fail}
use Rattle.reasons.specs.declared.reason.Reason.TheVariants.{Bound}
use Rattle.trees.specs.declared.steps.Goal.TheVariants.{Optimal}
use Rattle.search.proofs.TextLemmas.{leaves_line, one_named, text_end, text_line, text_some}
use Rattle.search.proofs.staying.stay.Goals as goal

pub returns-in_err-step-clause-writes : goal.returns-in_err-step-clause-writes
returns-in_err-step-clause-writes g c = record { name = search rules; kept = search rules; cause = search rules; front = text_some _ _ _ _ (leaves_line _ _ _ _ (Fail Bound) tt c.step.ensures.cut c.step.ensures.stays) }

pub returns-in_err-end-clause-writes : goal.returns-in_err-end-clause-writes
returns-in_err-end-clause-writes g c = record { name = search rules; kept = search rules; cause = search rules; front = text_end _ _ _ _ _ (Fail Bound ∷ []) (Optimal 0) (one_named _ (Fail Bound) tt) (search rules) (λ t. text_line _ _ _ (Fail Bound) (ap bytes_of (c.in_ok-step.ensures.grown t))) (rw c.in_ok-step.ensures.writer at c.end.ensures.cut) (rw c.in_ok-step.ensures.writer at c.end.ensures.stays) }

pub returns-clause-writes : goal.returns-clause-writes
returns-clause-writes g c = record { name = search rules; kept = search rules; cause = search rules; front = text_end _ _ _ _ _ (Fail Bound ∷ []) (Optimal 0) (one_named _ (Fail Bound) tt) (search rules) (λ t. text_line _ _ _ (Fail Bound) (ap bytes_of (c.in_ok-step.ensures.grown t))) (rw c.in_ok-step.ensures.writer at c.in_ok-end.ensures.cut) (rw c.in_ok-step.ensures.writer at c.in_ok-end.ensures.stays) }
