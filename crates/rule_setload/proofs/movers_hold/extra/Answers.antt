use Rattle.rule_setload.proofs.Prelude.{rules, has_node, sets}
use Rattle.rule_setload.proofs.AmountLemmas.{idle_extra, row_extra}
use Rattle.rule_setload.proofs.movers_hold.extra.Goals as goal

pub returns-then-idle-clause-extra : goal.returns-then-idle-clause-extra
returns-then-idle-clause-extra c =
    idle_extra c.args.p.now.given c.args.p.now.sound c.args.bound.now.weight (has_node c.args.bound.now.nodes) (sets c.args.g.now) c.args.v.0 c.domain-domain.result.now (search rules) (search (rules, c.idle.ensures, c.if-idle.true))

pub returns-in-Some-clause-extra : goal.returns-in-Some-clause-extra
returns-in-Some-clause-extra c =
    row_extra c.args.p.now.given c.args.p.now.sound c.args.bound.now.weight (has_node c.args.bound.now.nodes) (sets c.args.g.now) c.args.v.0 c.domain-domain.result.now c.rows.result.now c.in-Some.field-0 (search rules) c.rows.ensures.items c.rows.ensures.climbs c.in-Some.ensures.0 c.in-Some.ensures.1
