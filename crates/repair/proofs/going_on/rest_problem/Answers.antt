use Rattle.std.proofs.Common.{sym, ap, subst, ◌∙◌}
use Rattle.cluster.specs.Inventory.{Inventory}
use Rattle.remake.specs.Making.{instance_with}
use Rattle.repair.specs.Prelude.{IsInstance, IsInventory, phases_of}
use Rattle.repair.proofs.GoingLemmas.{known_of, parts_are_sound}
use Rattle.repair.proofs.going_on.rest_problem.Goals as goal

pub cluster_with-requires : goal.cluster_with-requires
cluster_with-requires c =
    let p = c.args.p.now in
    let known = known_of c.args.m.now p c.args.plan.now c.requires.problem c.requires.plan c.known.ensures in
    let nodes = c.in_ok-nodes.nodes.items in
    let machines = c.in_ok-machines.machines.items in
    let sound = parts_are_sound p.given p.sound c.args.plan.now known.whole known.valid (phases_of c.args.m.now) known.execution nodes machines c.in_ok-nodes.ensures c.in_ok-machines.ensures in
    subst (λ k. IsInventory (record k { nodes = nodes; machines = machines })) (sym c.cluster.ensures.cluster) sound.inventory

pub problem_with-requires : goal.problem_with-requires
problem_with-requires c =
    let p = c.args.p.now in
    let known = known_of c.args.m.now p c.args.plan.now c.requires.problem c.requires.plan c.known.ensures in
    let nodes = c.in_ok-nodes.nodes.items in
    let machines = c.in_ok-machines.machines.items in
    let sound = parts_are_sound p.given p.sound c.args.plan.now known.whole known.valid (phases_of c.args.m.now) known.execution nodes machines c.in_ok-nodes.ensures c.in_ok-machines.ensures in
    let cluster = c.in_ok-cluster.ensures ∙ ap (λ (k : Inventory). record k { nodes = nodes; machines = machines }) c.cluster.ensures.cluster in
    let constraints = c.in_ok-constraints.ensures ∙ c.constraints.ensures.constraints in
    subst IsInstance (sym (λ i. instance_with (cluster i) (c.horizon.ensures.horizon i) (constraints i))) sound
