use Rattle.base.proofs.Public.{◌∙◌, [], ap, get_or_default}
use Rattle.cluster.specs.declared.sets.NodeSet.{NodeSet}
use Rattle.catalogue.specs.Prelude.{has_node, no_nodes}
use Rattle.slices.specs.Elements.{node_count}
use Rattle.parts.specs.Numbers.{passing}
use Rattle.partition.proofs.PlanLemmas.{one_more_joined}
use Rattle.partition.proofs.plans.nodes_of_groups.Goals as goal

pub loop-i-preserved : goal.loop-i-preserved
loop-i-preserved c =
    let group = c.index-groups-i.is ∙ get_or_default c.args.groups.now c.loop-i.i c.index-groups-i.result no_nodes c.loop-i-test.true in
    let nodes = ap (λ (s : NodeSet). passing (λ n. has_node s n) (node_count c.args.p.now.given)) group in
    c.in_ok-push.ensures.items ∙ one_more_joined _ c.loop-i.i [] _ _ c.loop-i.invariant (c.in_ok-nodes_of_group.ensures ∙ nodes)
