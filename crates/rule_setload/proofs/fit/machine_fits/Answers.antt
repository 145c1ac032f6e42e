use Rattle.rule_setload.proofs.Prelude.{◌+◌, refl, arith, has_node, sets}
use Rattle.rule_setload.proofs.FitLemmas.{limit_fits}
use Rattle.rule_setload.proofs.fit.machine_fits.Goals as goal

pub returns-then-ever-limit : goal.returns-then-ever-limit
returns-then-ever-limit c =
    λ _. limit_fits c.args.p.now.given (sets c.args.g.now) c.args.bound.now.weight (has_node c.args.bound.now.nodes) c.args.x c.args.p.now.sound c.requires.period c.args.v.0 c.args.spare c.surely_held.result (c.args.spare + c.surely_held.result) refl c.surely_held.ensures.least
    (omega (arith, c.stay-stays.ensures.stay, c.unit.ensures.unit, c.if-ever-limit.true))
