use Rattle.base.proofs.Public.{◌≡◌, ◌∙◌, List, ap, get_or_read, sym}
use Rattle.std.specs.Prelude.{Vec}
use Rattle.std.specs.declared.alloc.Global.{Global}
use Rattle.cluster.specs.declared.ids.VmId.{VmId}
use Rattle.cluster.specs.declared.sets.NodeSet.{NodeSet}
use Rattle.catalogue.specs.Prelude.{no_nodes}
use Rattle.partition.specs.Cutting.{list_at, with_lists}
use Rattle.partition.proofs.DealLemmas.{list_at_get}
use Rattle.partition.proofs.sharing.share_at.Goals as goal

pub returns : goal.returns
returns c =
    let listed : list_at c.args.machines.now c.args.i ≡ c.index-machines-i.result.items =
    list_at_get c.args.machines.now c.args.i c.index-machines-i.result c.requires.machines ∙ ap (λ (v : Vec VmId Global). v.items) (sym c.index-machines-i.is) in
    c.renewed.ensures ∙ ap (λ (l : List VmId). with_lists (λ _. l) (λ _. c.index-sets-i.result) (λ v. v) c.args.constraint.now) (c.in_ok-list.ensures ∙ sym listed) ∙
    ap (λ (s : NodeSet). with_lists (λ _. list_at c.args.machines.now c.args.i) (λ _. s) (λ v. v) c.args.constraint.now) (get_or_read c.args.sets.now c.args.i c.index-sets-i.result c.requires.sets c.index-sets-i.is no_nodes)
