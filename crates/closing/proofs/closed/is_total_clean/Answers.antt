use Rattle.closing.proofs.{Prelude.sets, Prelude.total_load_watch, ClosedLemmas.clean_by, ClosedLemmas.clean_total, ClosedLemmas.found}
use Rattle.closing.proofs.closed.is_total_clean.Goals as goal

pub returns-clause-no : goal.returns-clause-no
returns-clause-no c =
    λ off clean.
    found (total_load_watch c.args.p.now.given) c.args.p.now.given (sets c.args.g.now) c.look_at_total_load.result (c.is_clean.ensures.no off) c.look_at_total_load.ensures (clean_total c.args.p.now.given (sets c.args.g.now) clean)

pub returns-clause-yes : goal.returns-clause-yes
returns-clause-yes c =
    λ on. clean_by (total_load_watch c.args.p.now.given) c.args.p.now.given (sets c.args.g.now) c.look_at_total_load.result (c.is_clean.ensures.yes on) c.look_at_total_load.ensures
