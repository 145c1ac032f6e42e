use Rattle.base.proofs.Public.{◌∙◌, ◌++◌, ◌∷◌, [], List, ap, sym}
use Rattle.cluster.specs.declared.ids.VmId.{VmId}
use Rattle.partition.proofs.DealLemmas.{list_at_get, list_at_set}
use Rattle.partition.proofs.sharing.put_machine.Goals as goal

pub returns-in_ok-push : goal.returns-in_ok-push
returns-in_ok-push c = record {
  each = λ j l.
      list_at_set c.args.lists.now c.args.i j c.push.new.self c.args.v c.if-i-lists.true
      (c.in_ok-push.ensures.items ∙ ap (λ (l : List VmId). l ++ c.args.v ∷ []) (sym (list_at_get c.args.lists.now c.args.i c.index-lists-i.result c.if-i-lists.true)));
}
