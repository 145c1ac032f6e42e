use Rattle.rule_setload.proofs.Prelude.{refl, has_node, sets}
use Rattle.rule_setload.proofs.HoldLemmas.{came_by, surely_came}
use Rattle.rule_setload.proofs.holding.surely_come.Goals as goal

pub returns-then-is_among-clause-least : goal.returns-then-is_among-clause-least
returns-then-is_among-clause-least c =
    let among = c.if-is_among.ensures refl in
    rw c.gain.ensures.gain (surely_came c.args.p.now.given c.args.p.now.sound c.args.bound.now.weight (has_node c.args.bound.now.nodes) c.args.v.0 c.args.x c.requires.period (sets c.args._g.now) c.args.k c.requires.standing c.in-Some.a.node.0 among.0 among.1 (λ t l. came_by c.in-Some.a c.args.k.come c.args.x.from t c.in-Some.is c.if-a-x.true l))
