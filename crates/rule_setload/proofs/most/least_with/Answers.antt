use Rattle.rule_setload.proofs.Prelude.{rules, has_node, sets}
use Rattle.rule_setload.proofs.HoldLemmas.{by_first, by_last}
use Rattle.rule_setload.proofs.most.least_with.Goals as goal

pub returns-then-first-most-clause-least : goal.returns-then-first-most-clause-least
returns-then-first-most-clause-least c = by_first c.args.p.now.given c.args.p.now.sound c.args.bound.now.weight (has_node c.args.bound.now.nodes) c.args.v.0 c.args.x c.requires.period (sets c.args.g.now) c.domain-domain.result.now c.args.i c.share-first.result c.row_at-row.result c.act.result (search rules) c.domain-domain.ensures.climbs (rw c.domain-domain.ensures.domain c.requires.row) c.row_at-row.ensures c.act.ensures c.share-first.ensures.share

pub returns-then-last-most-clause-least : goal.returns-then-last-most-clause-least
returns-then-last-most-clause-least c = by_last c.args.p.now.given c.args.p.now.sound c.args.bound.now.weight (has_node c.args.bound.now.nodes) c.args.v.0 c.args.x c.requires.period (sets c.args.g.now) c.domain-domain.result.now c.args.i c.share-last.result c.row_at-row.result c.act-2.result (search rules) c.domain-domain.ensures.climbs (rw c.domain-domain.ensures.domain c.requires.row) c.row_at-row.ensures c.act-2.ensures c.share-last.ensures.share
