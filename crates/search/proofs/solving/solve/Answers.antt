use Rattle.std.proofs.Common.{rules}
use Rattle.search.proofs.{StayLemmas.stayed_shown, StayLemmas.stayed_true, TextLemmas.text_none, WorkLemmas.cover_same}
use Rattle.search.proofs.solving.solve.Goals as goal

pub returns-in_err-plan-clause-writes : goal.returns-in_err-plan-clause-writes
returns-in_err-plan-clause-writes g c = record { name = search rules; kept = search rules; cause = search rules; front = text_none _ _ _ }

pub returns-in-Some-clause-covers : goal.returns-in-Some-clause-covers
returns-in-Some-clause-covers g c = cover_same _ _

pub returns-in-Some-clause-shown : goal.returns-in-Some-clause-shown
returns-in-Some-clause-shown g c = stayed_shown _ _ c.args.budget _ _ _ _ _ c.in_ok-found.ensures.stayed

pub returns-in-Some-clause-true_of : goal.returns-in-Some-clause-true_of
returns-in-Some-clause-true_of g c = stayed_true _ c.args.p.now.sound c.args.budget _ _ _ _ c.in_ok-found.ensures.stayed
