use Rattle.relax.proofs.{Prelude.sym, Prelude.◌∙◌, StartLemmas.legal_starts, StartLemmas.no_legal_starts}
use Rattle.relax.proofs.start.legal_row.Goals as goal

pub returns-in-None-clause-set : goal.returns-in-None-clause-set
returns-in-None-clause-set c = sym (no_legal_starts c.args.p.now.given c.args.e c.args.place (sym c.kind_of.ensures ∙ c.in-None.is))

pub returns-in-Some-clause-set : goal.returns-in-Some-clause-set
returns-in-Some-clause-set c =
    (rw (c.horizon.ensures.horizon, c.duration.ensures.duration) at c.row_within.ensures.set)
    ∙ sym (legal_starts c.args.p.now.given c.args.e c.args.place c.in-Some.kind (sym c.kind_of.ensures ∙ c.in-Some.is))
