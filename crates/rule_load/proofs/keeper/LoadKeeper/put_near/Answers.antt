use Rattle.rule_load.proofs.Prelude.{machine_count, near_put}
use Rattle.rule_load.proofs.KeptLemmas.{grows_put}
use Rattle.rule_load.proofs.keeper.LoadKeeper.put_near.Goals as goal

pub returns-in_ok-put-clause-near : goal.returns-in_ok-put-clause-near
returns-in_ok-put-clause-near c = near_put c.args._p.now.given c.in-Some.a.node.0 c.args.v.0 c.args.self.now.near c.put.new.self c.requires.machine c.requires.near c.in_ok-put.ensures

pub returns-in_ok-put-clause-grows : goal.returns-in_ok-put-clause-grows
returns-in_ok-put-clause-grows c = grows_put c.in-Some.a.node.0 c.args.v.0 (machine_count c.args._p.now.given) c.args.self.now.near c.put.new.self c.requires.machine c.in_ok-put.ensures
