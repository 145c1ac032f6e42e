use Rattle.rule_setload.proofs.Prelude.{arith, nat_tests, has_node, sets}
use Rattle.rule_setload.proofs.AmountLemmas.{stays_in}
use Rattle.rule_setload.proofs.movers_hold.stays_within.Goals as goal

pub returns : goal.returns
returns c =
    λ fits. stays_in c.args.p.now.given (sets c.args.g.now) c.args.bound.now.weight (has_node c.args.bound.now.nodes) c.args.movers.now c.args.stayers c.extra_of-extra.result c.args.bound.now.amount c.args.p.now.sound c.requires.stayers c.requires.movers c.extra_of-extra.ensures.extra (grind (arith, nat_tests, fits))
