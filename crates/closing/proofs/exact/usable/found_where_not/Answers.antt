use Rattle.closing.proofs.{Prelude.refl, Prelude.sets, UsableLemmas.nowhere_free, UsableLemmas.stands_met}
use Rattle.closing.proofs.exact.usable.found_where_not.Goals as goal

pub returns-in-None : goal.returns-in-None
returns-in-None c = nowhere_free c.args.p.now.given (sets c.args.g.now) c.args.n.0 c.args.t (c.is_needed.ensures.no c.if-is_needed.false) c.in-None.ensures.none

pub returns-in-Some : goal.returns-in-Some
returns-in-Some c =
    let at = c.in-Some.ensures.some in
    (refl, stands_met c.args.p.now.given (sets c.args.g.now) c.args.n.0 c.args.t c.requires.usable c.in-Some.v.0 at.0 c.in-Some.c at.1)
