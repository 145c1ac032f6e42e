use Rattle.standings.proofs.{Prelude.subst, Prelude.choices, Prelude.IsStanding, Prelude.sets, TableLemmas.first_push}
use Rattle.standings.proofs.table.standings_of.Goals as goal

pub loop-i-preserved : goal.loop-i-preserved
loop-i-preserved c =
    rw c.in_ok-push.ensures.items
    (first_push c.args.p.now.given (sets c.args.g.now) c.loop-i.i c.loop-i.standings.items c.standing_of.result c.loop-i.invariant
    (subst (λ d. IsStanding c.args.p.now.given c.loop-i.i (choices d) c.standing_of.result) c.domain.ensures.domain c.standing_of.ensures))
