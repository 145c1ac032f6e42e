use Rattle.cert_check.proofs.Prelude.{◌≡◌, drop, no_nodes, nodes_added}
use Rattle.cert_check.proofs.named.listed.Given as goal

abbrev pub invariant-loop-name : goal.invariant-loop-name
invariant-loop-name l = nodes_added l.p.given no_nodes l.names ≡ nodes_added l.p.given l.set (drop l.name-index l.names)
