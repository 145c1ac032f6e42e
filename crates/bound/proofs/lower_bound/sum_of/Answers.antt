use Rattle.std.proofs.Common.{arith}
use Rattle.domains.specs.Sets.{sets}
use Rattle.bound.proofs.CostLemmas.{cost_is_small}
use Rattle.bound.proofs.lower_bound.sum_of.Goals as goal

pub overflow_cast-result : goal.overflow_cast-result
overflow_cast-result c = omega (arith, c.least_cost.ensures, cost_is_small c.args.p.now.given c.args.p.now.sound (sets c.args.g.now) c.requires.legal)
