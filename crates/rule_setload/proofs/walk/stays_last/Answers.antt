use Rattle.rule_setload.proofs.Prelude.{arith}
use Rattle.rule_setload.proofs.walk.stays_last.Goals as goal

pub returns : goal.returns
returns c = λ on. (c.stays_during.ensures on) c.args.p.now.given.horizon (omega arith, omega arith)
