use Rattle.rule_setload.proofs.Prelude.{rules, arith, has_node, sets}
use Rattle.rule_setload.proofs.AsideLemmas.{is_aside}
use Rattle.rule_setload.proofs.concerned.is_concerned.Goals as goal

pub returns-else-stay-gt0 : goal.returns-else-stay-gt0
returns-else-stay-gt0 c = λ off.
    is_aside c.args.p.now.given c.args.p.now.sound (sets c.args.g.now) c.args.bound.now.weight (has_node c.args.bound.now.nodes) c.args.v.0 (omega (arith, c.stay.ensures.stay, c.if-stay-gt0.false)) c.domain.result.now c.rows.result.now (search rules) c.rows.ensures.items c.rows.ensures.climbs (c.go_there.ensures off)
