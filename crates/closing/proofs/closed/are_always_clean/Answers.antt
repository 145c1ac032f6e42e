use Rattle.closing.proofs.{Prelude.sets, ClosedLemmas.all_clean}
use Rattle.closing.proofs.closed.are_always_clean.Goals as goal

pub returns-clause-yes : goal.returns-clause-yes
returns-clause-yes c =
    λ on.
    all_clean c.args.p.now.given (sets c.args.g.now) (c.are_loads_clean.ensures.yes c.if-not-are_loads_clean.false) (c.are_usable_clean.ensures.yes c.if-not-are_usable_clean.false)
    (c.are_constraints_clean.ensures.yes c.if-not-are_constraints_clean.false) (c.is_total_clean.ensures.yes on)
