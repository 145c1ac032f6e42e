use Rattle.power_bounds.proofs.Prelude.{arith}
use Rattle.power_bounds.proofs.power.power_last.Goals as goal

pub returns : goal.returns
returns c = λ on. (c.power_during.ensures on) c.args.p.now.given.horizon (omega arith, omega arith)
