use Rattle.base.proofs.Public.{◌≡◌, ◌∙◌, List, ap, if◌then◌else◌}
use Rattle.cluster.specs.declared.ids.Element.{Element}
use Rattle.rule_script.specs.Elements.{entry_of}
use Rattle.rule_script.specs.Marks.{in_list}
use Rattle.rule_script.proofs.ElementLemmas.{all_of, marks_all}
use Rattle.rule_script.proofs.gathered.Long.of.Goals as goal

pub invariant_of-result : goal.invariant_of-result
invariant_of-result c =
    let is : (x : Element) → entry_of c.in_ok-places.places x ≡ (if in_list c.into_list-list.result.items x then 1 else 0) = λ x. c.in_ok-places.ensures x ∙ ap (λ (l : List Element). if in_list l x then 1 else 0) c.deref.ensures.value in
    (rw c.into_list-list.ensures.list c.into_list-list.ensures.small, marks_all (entry_of c.in_ok-places.places) c.into_list-list.result.items is)

pub returns : goal.returns
returns c =
    let is : (x : Element) → entry_of c.in_ok-places.places x ≡ (if in_list c.into_list-list.result.items x then 1 else 0) = λ x. c.in_ok-places.ensures x ∙ ap (λ (l : List Element). if in_list l x then 1 else 0) c.deref.ensures.value in
    all_of (entry_of c.in_ok-places.places) c.into_list-list.result.items is ∙ c.into_list-list.ensures.list
