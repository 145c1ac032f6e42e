use Rattle.rule_setload.proofs.Prelude.{rules, has_node, sets}
use Rattle.rule_setload.proofs.HoldLemmas.{most_idle}
use Rattle.rule_setload.proofs.most.most_held.Goals as goal

pub returns-then-stays-eq0-clause-most : goal.returns-then-stays-eq0-clause-most
returns-then-stays-eq0-clause-most c = most_idle c.args.p.now.given c.args.p.now.sound c.args.bound.now.weight (has_node c.args.bound.now.nodes) c.args.v.0 c.args.x c.requires.period (sets c.args.g.now) c.domain-domain.result.now c.stay-stays.result (search rules) (search rules) c.stay-stays.ensures.stay

pub least_share-requires-2-clause-most : goal.least_share-requires-2-clause-most
least_share-requires-2-clause-most c = most_idle c.args.p.now.given c.args.p.now.sound c.args.bound.now.weight (has_node c.args.bound.now.nodes) c.args.v.0 c.args.x c.requires.period (sets c.args.g.now) c.domain-domain.result.now c.stay-stays.result (search rules) (search rules) c.stay-stays.ensures.stay
