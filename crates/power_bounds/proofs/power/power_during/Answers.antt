use Rattle.power_bounds.proofs.Prelude.{arith, has_node, sets}
use Rattle.power_bounds.proofs.PowerLemmas.{power_full, power_spare}
use Rattle.power_bounds.proofs.power.power_during.Goals as goal

pub returns-then-total-bound : goal.returns-then-total-bound
returns-then-total-bound c = λ _. power_spare c.args.p.now.given (sets c.args.g.now) (has_node c.args.bound.now.nodes) c.args.x c.args.bound.now.amount c.powered_total-total.result c.powered_total-total.ensures.total c.if-total-bound.true

pub returns : goal.returns
returns c = λ on. power_full c.args.p.now.given (sets c.args.g.now) (has_node c.args.bound.now.nodes) c.args.x c.args.bound.now.amount c.powered_total-total.result c.powered_total-total.ensures.total (omega arith) (c.nodes_fit.ensures on)
