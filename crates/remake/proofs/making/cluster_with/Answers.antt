use Rattle.base.proofs.Public.{◌++◌, List, sym, ap, ◌∙◌}
use Rattle.remake.proofs.AddLemmas.{machine_not_refused, node_not_refused}
use Rattle.remake.proofs.making.cluster_with.Goals as goal

pub add_node-requires : goal.add_node-requires
add_node-requires c =
    let at = c.loop-node in
    let all = record c.args.of.now.given { nodes = c.args.nodes.items; machines = c.args.machines.items } in
    rw at.invariant.made (node_not_refused all c.requires at.yielded c.in-Some.node _ (ap (λ (l : List _). at.yielded ++ l) (sym c.in-Some.ensures.steps.0) ∙ at.invariant.whole))

pub add_machine-requires : goal.add_machine-requires
add_machine-requires c =
    let at = c.loop-machine in
    let all = record c.args.of.now.given { nodes = c.args.nodes.items; machines = c.args.machines.items } in
    rw at.invariant.made
    (machine_not_refused all c.requires at.yielded c.in-Some-machine.machine _ (ap (λ (l : List _). at.yielded ++ l) (sym c.in-Some-machine.ensures.steps.0) ∙ at.invariant.whole))
