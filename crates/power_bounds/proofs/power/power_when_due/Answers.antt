use Rattle.power_bounds.proofs.Prelude.{rules, has_node, sets}
use Rattle.power_bounds.proofs.PowerLemmas.{power_always, power_last}
use Rattle.power_bounds.proofs.power.power_when_due.Goals as goal

pub returns-then-always : goal.returns-then-always
returns-then-always c = λ on. power_always c.args.p.now.given (sets c.args.g.now) (has_node c.args.bound.now.nodes) c.args.bound.now.amount c.args.always (c.power_always.ensures on)

pub returns : goal.returns
returns c = λ on. power_last c.args.p.now.given (sets c.args.g.now) (has_node c.args.bound.now.nodes) c.args.bound.now.amount c.args.always (search rules) (c.power_last.ensures on)
