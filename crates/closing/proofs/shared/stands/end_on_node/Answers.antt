use Rattle.closing.proofs.{Prelude.sym, Prelude.◌∙◌, StandLemmas.on_only_at}
use Rattle.closing.proofs.shared.stands.end_on_node.Goals as goal

pub end_at-requires-clause-only : goal.end_at-requires-clause-only
end_at-requires-clause-only c = on_only_at c.args.p.now.given c.args.v.0 c.args.t c.args.n (sym c.is_host.ensures ∙ c.if-is_host.false)
