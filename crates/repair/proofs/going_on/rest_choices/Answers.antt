use Rattle.std.proofs.Common.{◌≡◌, ℕ, [], ◌∷◌, ◌++◌, length, slice_index_or, ap, ◌∙◌, arith, rules, length-append}
use Rattle.cluster.specs.declared.choices.Choice.TheVariants.{Idle}
use Rattle.repair.specs.Prelude.{choices_of, element_at, inventory_of, phases_of, rest_choices}
use Rattle.repair.proofs.GoingLemmas.{one_more_choice}
use Rattle.repair.proofs.going_on.rest_choices.Goals as goal

pub loop-x-preserved : goal.loop-x-preserved
loop-x-preserved c =
    let p = c.args.p.now.given in
    let x = c.loop-x.x in
    let wanted = λ (y : ℕ). rest_choices (choices_of c.args.plan.now) (phases_of c.args.m.now) (element_at (inventory_of p) y) in
    let items : c.push.new.self.items ≡ c.loop-x.choices.items ++ c.rest_choice.result ∷ [] = search rules in
    let this : c.rest_choice.result ≡ wanted x =
    c.rest_choice.ensures ∙ ap (rest_choices (choices_of c.args.plan.now) (phases_of c.args.m.now)) (c.element.ensures.element ∙ ap (λ k. element_at k x) c.cluster-in-loop-x.ensures.cluster)
    in
    record {
      count = ap length items ∙ omega (arith, length-append c.loop-x.choices.items (c.rest_choice.result ∷ []), c.loop-x.invariant.count);
      each = λ y low. ap (λ xs. slice_index_or xs y Idle) items ∙ one_more_choice wanted c.loop-x.choices.items c.rest_choice.result x c.loop-x.invariant.count c.loop-x.invariant.each this y low;
    }
