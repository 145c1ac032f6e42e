use Rattle.base.proofs.Public.{◌≡◌, ◌++◌, ◌∙◌, ◌∷◌, [], List, ap, append_assoc, arith, length, map, rules, sym}
use Rattle.catalogue.specs.Prelude.{SoundInstance}
use Rattle.partition.specs.Cutting.{list_at, part_by}
use Rattle.partition.proofs.DealLemmas.{as_many, part_given, part_in_turn, parts_more}
use Rattle.partition.proofs.building.parts_with.Goals as goal

pub part-requires : goal.part-requires
part-requires c =
    let at = c.loop-list in
    let turn : c.len.result ≡ length at.yielded = omega (arith, c.len.ensures, at.invariant.each) in
    part_in_turn c.args.p.now.given c.args.d.now c.args.numbers.now c.args.lists.items at.yielded c.in-Some.list _ c.len.result (ap (λ (l : List _). at.yielded ++ l) (sym c.in-Some.ensures.steps.0) ∙ at.invariant.whole) turn c.requires

pub loop-list-preserved : goal.loop-list-preserved
loop-list-preserved c =
    let at = c.loop-list in
    let turn : c.len.result ≡ length at.yielded = omega (arith, c.len.ensures, at.invariant.each) in
    record {
      made =
          ap (map (λ (x : SoundInstance). x.given)) c.in_ok-push.ensures.items ∙
          parts_more (λ i. part_by c.args.p.now.given c.args.d.now c.args.numbers.now i (list_at c.args.lists.items i)) at.parts.items c.in_ok-part.part at.yielded c.in-Some.list at.invariant.made
          (part_given c.args.p.now.given c.args.d.now c.args.numbers.now c.args.lists.items at.yielded c.in-Some.list _ c.len.result _ (ap (λ (l : List _). at.yielded ++ l) (sym c.in-Some.ensures.steps.0) ∙ at.invariant.whole) turn c.in_ok-part.ensures);
      each = as_many c.push.new.self.items at.parts.items c.in_ok-part.part at.yielded c.in-Some.list c.in_ok-push.ensures.items at.invariant.each;
      whole = append_assoc at.yielded (c.in-Some.list ∷ []) _ ∙ (ap (λ (l : List _). at.yielded ++ l) (sym c.in-Some.ensures.steps.0) ∙ at.invariant.whole);
      can_next = search rules;
      is_finite = search rules;
    }
