use Rattle.rule_setload.proofs.Prelude.{has_node, sets}
use Rattle.rule_setload.proofs.FitLemmas.{stays_during}
use Rattle.rule_setload.proofs.fit.stays_during.Goals as goal

pub returns : goal.returns
returns c = λ on. stays_during c.args.p.now.given (sets c.args.g.now) c.args.bound.now.weight (has_node c.args.bound.now.nodes) c.args.x c.most_total-total.result c.spare_of-spare.result c.args.bound.now.amount c.most_total-total.ensures.within c.spare_of-spare.ensures.fits (c.machines_fit.ensures on)
