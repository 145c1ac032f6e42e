use Rattle.base.proofs.Public.{◌∙◌, ◌++◌, List, ap, sym}
use Rattle.catalogue.specs.declared.constraint.Constraint.{Constraint}
use Rattle.slices.specs.Forms.{form_of}
use Rattle.partition.specs.Cutting.{list_at}
use Rattle.partition.proofs.DealLemmas.{dealt_alone}
use Rattle.partition.proofs.ShareLemmas.{not_joint}
use Rattle.partition.proofs.dealing.put_alone.Goals as goal

pub put_all-requires : goal.put_all-requires
put_all-requires c = not_joint c.args.d.now (form_of c.args.constraint.now) c.requires

pub returns : goal.returns
returns c = record {
  each = λ j l.
      c.in_ok-put_all.ensures.each j l ∙ ap (λ (l : List Constraint). list_at c.args.lists.now j ++ l) (sym (dealt_alone c.args.d.now c.args.numbers.now j c.args.constraint.now c.requires));
}
