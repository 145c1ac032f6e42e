use Rattle.base.proofs.Public.{◌∙◌, ◌==◌, ◌++◌, ◌∷◌, [], List, ap, if◌then◌else◌, sym}
use Rattle.catalogue.specs.declared.constraint.Constraint.{Constraint}
use Rattle.partition.specs.Cutting.{list_at}
use Rattle.partition.proofs.DealLemmas.{dealt_home}
use Rattle.partition.proofs.dealing.put_home.Goals as goal

pub returns : goal.returns
returns c = record {
  each = λ j l.
      c.in_ok-put.ensures.each j l ∙ ap (λ (x : Constraint). list_at c.args.lists.now j ++ (if c.args.home == j then x ∷ [] else [])) c.in_ok-share.ensures ∙
      ap (λ (l : List Constraint). list_at c.args.lists.now j ++ l) (sym (dealt_home c.args.d.now c.args.numbers.now c.args.home j c.args.constraint.now c.requires));
}
