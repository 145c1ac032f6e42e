use Rattle.closing.proofs.{Prelude.sym, Prelude.◌∙◌, UsableLemmas.stands_only_at}
use Rattle.closing.proofs.exact.usable.end_on.Goals as goal

pub end_at-requires-clause-only : goal.end_at-requires-clause-only
end_at-requires-clause-only c = stands_only_at c.args.p.now.given c.args.v.0 c.args.t c.args.n (sym c.is_host.ensures ∙ c.if-is_host.false)
