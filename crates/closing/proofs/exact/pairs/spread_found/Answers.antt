use Rattle.closing.proofs.{Prelude.sets, ApartLemmas.spread_free}
use Rattle.closing.proofs.exact.pairs.spread_found.Goals as goal

pub returns-then-are_apart : goal.returns-then-are_apart
returns-then-are_apart c = spread_free c.args.p.now.given (sets c.args.g.now) c.args.t c.args.machines.now (c.are_apart.ensures c.if-are_apart.true)
