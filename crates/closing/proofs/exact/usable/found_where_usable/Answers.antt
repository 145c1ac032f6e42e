use Rattle.closing.proofs.{Prelude.refl, Prelude.sets, UsableLemmas.missed_met, UsableLemmas.unneeded_free, UsableLemmas.usable_free}
use Rattle.closing.proofs.exact.usable.found_where_usable.Goals as goal

pub returns-in-None : goal.returns-in-None
returns-in-None c = usable_free c.args.p.now.given (sets c.args.g.now) c.args.n.0 c.args.t c.requires.usable (rw c.domain.ensures.domain at c.in-None.ensures.none)

pub returns-then-is_needed : goal.returns-then-is_needed
returns-then-is_needed c = (refl, missed_met c.args.p.now.given (sets c.args.g.now) c.args.n.0 c.args.t c.requires.node (c.is_needed.ensures.yes c.if-is_needed.true) c.in-Some.c (rw c.domain.ensures.domain at c.in-Some.ensures.some))

pub returns-else-is_needed : goal.returns-else-is_needed
returns-else-is_needed c = unneeded_free c.args.p.now.given (sets c.args.g.now) c.args.n.0 c.args.t c.requires.usable (c.is_needed.ensures.no c.if-is_needed.false)
