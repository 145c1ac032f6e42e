use Rattle.rule_setload.proofs.Prelude.{arith, nat_tests, has_node}
use Rattle.rule_setload.proofs.HoldLemmas.{ever_share, is_share}
use Rattle.rule_setload.proofs.fit.end_fits.Goals as goal

pub returns-then-came-stays : goal.returns-then-came-stays
returns-then-came-stays c = λ on. ever_share c.args.p.now.given c.args.p.now.sound c.args.bound.now.weight (has_node c.args.bound.now.nodes) c.args.v.0 c.args.x c.requires.period c.args.c c.args.stays c.brought-came.result c.args.limit c.requires.stays c.brought-came.ensures.brought (grind (arith, nat_tests, on))

pub returns-else-came-stays : goal.returns-else-came-stays
returns-else-came-stays c = λ on. is_share c.args.p.now.given c.args.p.now.sound c.args.bound.now.weight (has_node c.args.bound.now.nodes) c.args.v.0 c.args.x c.requires.period c.args.c c.args.stays c.kept.result c.brought-came.result c.args.limit c.requires.stays c.kept.ensures.kept c.brought-came.ensures.brought (grind (arith, nat_tests, on))
