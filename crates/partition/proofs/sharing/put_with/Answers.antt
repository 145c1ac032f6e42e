use Rattle.base.proofs.Public.{◌∙◌, ◌==◌, ◌++◌, ◌∷◌, [], ◌<◌, ℕ, ap, arith, get_or, if◌then◌else◌, length}
use Rattle.catalogue.specs.declared.constraint.Constraint.{Constraint}
use Rattle.catalogue.specs.Prelude.{no_nodes}
use Rattle.partition.specs.Cutting.{list_at, with_lists}
use Rattle.partition.proofs.DealLemmas.{each_item, item_more}
use Rattle.partition.proofs.sharing.put_with.Goals as goal

pub loop-i-preserved : goal.loop-i-preserved
loop-i-preserved c = λ j l.
    let within : j < length c.loop-i.lists = omega arith in
    item_more (λ (k : ℕ). with_lists (λ _. list_at c.args.machines.now k) (λ _. get_or c.args.sets.now k no_nodes) (λ v. v) c.args.constraint.now) _ (list_at c.loop-i.lists j) _ c.loop-i.i j (c.loop-i.invariant j within)
    (c.in_ok-put.ensures.each j within ∙ ap (λ (x : Constraint). list_at c.loop-i.lists j ++ (if c.loop-i.i == j then x ∷ [] else [])) c.in_ok-share.ensures)

pub returns : goal.returns
returns c = record {
  each = λ j l.
      let within : j < length c.loop-i.lists = omega arith in
      let below : j < c.loop-i.i = omega arith in
      each_item (λ (k : ℕ). with_lists (λ _. list_at c.args.machines.now k) (λ _. get_or c.args.sets.now k no_nodes) (λ v. v) c.args.constraint.now) _ _ c.loop-i.i j below (c.loop-i.invariant j within);
}
