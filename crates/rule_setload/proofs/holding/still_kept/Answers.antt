use Rattle.rule_setload.proofs.Prelude.{arith, has_node, sets}
use Rattle.rule_setload.proofs.HolderLemmas.{kept_holds}
use Rattle.rule_setload.proofs.holding.still_kept.Goals as goal

pub returns-then-from-k-clause-least : goal.returns-then-from-k-clause-least
returns-then-from-k-clause-least c =
    kept_holds c.args.p.now.given (sets c.args._g.now) c.args._bound.now.weight (has_node c.args._bound.now.nodes) c.args.v.0 c.args.x c.args.k c.args.stays c.requires.standing c.requires.kept c.requires.period (omega (arith, c.if-from-k.true, c.from.ensures))
