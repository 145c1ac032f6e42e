use Rattle.base.proofs.Public.{◌≡◌, drop}
use Rattle.cluster.specs.Prelude.{no_nodes}
use Rattle.rule_script.specs.Elements.{nodes_with}
use Rattle.rule_script.proofs.elements.Elements.nodes.Given as goal

abbrev pub invariant-loop-e : goal.invariant-loop-e
invariant-loop-e l = nodes_with l.found (drop l.e-index l.e-items) ≡ nodes_with no_nodes l.e-items
