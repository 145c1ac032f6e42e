use Rattle.base.proofs.Public.{◌≡◌, ◌∙◌, ◌++◌, ◌∷◌, [], ℕ, List, ap, get_or}
use Rattle.std.specs.Prelude.{Vec}
use Rattle.std.specs.declared.alloc.Global.{Global}
use Rattle.cluster.specs.declared.ids.VmId.{VmId}
use Rattle.cluster.specs.declared.sets.NodeSet.{NodeSet}
use Rattle.catalogue.specs.declared.constraint.Constraint.{Constraint}
use Rattle.catalogue.specs.Prelude.{no_nodes}
use Rattle.partition.specs.Cutting.{list_at, listed_machines, listed_nodes, machines_by, nodes_by, with_lists}
use Rattle.partition.proofs.ShareLemmas.{alone_as}
use Rattle.partition.proofs.sharing.put_all.Goals as goal

pub returns : goal.returns
returns c = record {
  each = λ j l.
      let d = c.args.d.now in
      let numbers = c.args.numbers.now in
      let constraint = c.args.constraint.now in
      let old = list_at c.args.lists.now j in
      let machines_are : list_at c.deref-5.result.now j ≡ machines_by d.machines.items numbers.machines.items j (listed_machines constraint) =
      ap (λ (t : List (Vec VmId Global)). list_at t j) c.deref-5.ensures.value ∙ c.in_ok-machines.ensures.dealt j l ∙
      ap (λ (t : List ℕ). machines_by t c.deref-2.result.now j c.listed_machines-listed.result.now) c.deref.ensures.value ∙
      ap (λ (t : List ℕ). machines_by d.machines.items t j c.listed_machines-listed.result.now) c.deref-2.ensures.value ∙
      ap (machines_by d.machines.items numbers.machines.items j) c.listed_machines-listed.ensures in
      let nodes_are : get_or c.deref-6.result.now j no_nodes ≡ nodes_by d.nodes.items numbers.nodes.items j (listed_nodes constraint) =
      ap (λ (t : List NodeSet). get_or t j no_nodes) c.deref-6.ensures.value ∙ c.in_ok-sets.ensures.dealt j l ∙
      ap (λ (t : List ℕ). nodes_by t c.deref-4.result.now j c.listed_nodes-nodes.result) c.deref-3.ensures.value ∙
      ap (λ (t : List ℕ). nodes_by d.nodes.items t j c.listed_nodes-nodes.result) c.deref-4.ensures.value ∙
      ap (nodes_by d.nodes.items numbers.nodes.items j) c.listed_nodes-nodes.ensures in
      c.in_ok-put_with.ensures.each j l ∙
      ap (λ (m : List VmId). old ++ with_lists (λ _. m) (λ _. get_or c.deref-6.result.now j no_nodes) (λ v. v) constraint ∷ []) machines_are ∙
      ap (λ (s : NodeSet). old ++ with_lists (λ _. machines_by d.machines.items numbers.machines.items j (listed_machines constraint)) (λ _. s) (λ v. v) constraint ∷ []) nodes_are ∙
      ap (λ (x : Constraint). old ++ x ∷ []) (alone_as d numbers j constraint c.requires);
}
