use Rattle.base.proofs.Public.{◌∙◌, ◌++◌, ◌∷◌, [], List, ap, sym}
use Rattle.catalogue.specs.declared.constraint.Constraint.{Constraint}
use Rattle.partition.proofs.DealLemmas.{list_at_get, list_at_set}
use Rattle.partition.proofs.dealing.put.Goals as goal

pub returns-in_ok-push : goal.returns-in_ok-push
returns-in_ok-push c = record {
  each = λ j l.
      list_at_set c.args.lists.now c.args.i j c.push.new.self c.args.constraint c.if-i-lists.true
      (c.in_ok-push.ensures.items ∙ ap (λ (l : List Constraint). l ++ c.args.constraint ∷ []) (sym (list_at_get c.args.lists.now c.args.i c.index-lists-i.result c.if-i-lists.true)));
}
