use Rattle.base.proofs.Public.{◌∙◌, ℕ, ◌<◌, ◌≤◌, List, ap, length, subst, sym}
use Rattle.cluster.specs.Limits.{max_machines}
use Rattle.partition.specs.Numbering.{numbers_by}
use Rattle.partition.specs.Reach.{at}
use Rattle.partition.proofs.NumberingLemmas.{are_numbers, few_in_machines, few_in_nodes, machine_within, node_within}
use Rattle.partition.proofs.numbering.number.Goals as goal

pub number_all-requires-clause-within : goal.number_all-requires-clause-within
number_all-requires-clause-within c =
    subst (λ (t : List ℕ). (x : ℕ) → x < length t → at t x < length c.args.groups.now) (sym c.deref.ensures.value)
    (node_within c.args.p.now.given c.args.groups.now c.args.d.now.nodes.items c.args.d.now.machines.items c.requires)

pub number_all-requires-clause-few : goal.number_all-requires-clause-few
number_all-requires-clause-few c =
    subst (λ (t : List ℕ). length t ≤ max_machines) (sym c.deref.ensures.value)
    (few_in_nodes c.args.p.now.given c.args.groups.now c.args.d.now.nodes.items c.args.d.now.machines.items c.requires c.args.p.now.sound)

pub number_all-requires-2-clause-within : goal.number_all-requires-2-clause-within
number_all-requires-2-clause-within c =
    subst (λ (t : List ℕ). (x : ℕ) → x < length t → at t x < length c.args.groups.now) (sym c.deref-2.ensures.value)
    (machine_within c.args.p.now.given c.args.groups.now c.args.d.now.nodes.items c.args.d.now.machines.items c.requires)

pub number_all-requires-2-clause-few : goal.number_all-requires-2-clause-few
number_all-requires-2-clause-few c =
    subst (λ (t : List ℕ). length t ≤ max_machines) (sym c.deref-2.ensures.value)
    (few_in_machines c.args.p.now.given c.args.groups.now c.args.d.now.nodes.items c.args.d.now.machines.items c.requires c.args.p.now.sound)

pub returns : goal.returns
returns c =
    are_numbers c.args.p.now.given c.args.groups.now c.args.d.now.nodes.items c.args.d.now.machines.items c.requires c.in_ok-nodes.nodes.items c.in_ok-machines.machines.items
    (c.in_ok-nodes.ensures ∙ ap numbers_by c.deref.ensures.value) (c.in_ok-machines.ensures ∙ ap numbers_by c.deref-2.ensures.value)
