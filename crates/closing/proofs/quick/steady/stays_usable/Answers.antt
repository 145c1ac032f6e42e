use Rattle.closing.proofs.{Prelude.sym, Prelude.◌∙◌, Prelude.sets, SteadyLemmas.stays_usable_by, UsableLemmas.staying_free}
use Rattle.closing.proofs.quick.steady.stays_usable.Goals as goal

pub returns-then-can_only_stay-clause-free : goal.returns-then-can_only_stay-clause-free
returns-then-can_only_stay-clause-free c on t =
    staying_free c.args.p.now.given (sets c.args.g.now) c.args.n.0 t
    (stays_usable_by c.args.p.now.given (sets c.args.g.now) c.args.n.0 (rw c.domain.ensures.domain at (c.can_only_stay.ensures c.if-can_only_stay.true)) (sym c.usable.ensures ∙ on))

pub returns-then-can_only_stay-clause-steady : goal.returns-then-can_only_stay-clause-steady
returns-then-can_only_stay-clause-steady c on =
    stays_usable_by c.args.p.now.given (sets c.args.g.now) c.args.n.0 (rw c.domain.ensures.domain at (c.can_only_stay.ensures c.if-can_only_stay.true))
    (sym c.usable.ensures ∙ on)
