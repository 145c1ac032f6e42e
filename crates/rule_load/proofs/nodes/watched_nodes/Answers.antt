use Rattle.rule_load.proofs.SetLemmas.{one_listed}
use Rattle.rule_load.proofs.nodes.watched_nodes.Goals as goal

pub returns-in-Some-clause-listed : goal.returns-in-Some-clause-listed
returns-in-Some-clause-listed c = one_listed c.args.p.now.given c.one_node.result c.in-Some.n.0 c.in-Some.ensures.some.0 c.one_node.ensures.nodes
