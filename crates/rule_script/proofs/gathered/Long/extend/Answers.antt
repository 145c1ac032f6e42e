use Rattle.std.proofs.lemmas.Fn.{filter_same}
use Rattle.base.proofs.Public.{◌≡◌, ◌∙◌, ◌++◌, ◌+◌, ℕ, List, ap, ap₂, filter, length, list_all, not, rules, sym, true, if◌then◌else◌}
use Rattle.cluster.specs.declared.ids.Element.{Element}
use Rattle.rule_script.specs.Elements.{entry_of, standing}
use Rattle.rule_script.specs.Marks.{in_list}
use Rattle.rule_script.specs.Small.{is_small}
use Rattle.rule_script.proofs.ElementLemmas.{both_small, list_all-filter, put_in, put_in_marks}
use Rattle.rule_script.proofs.gathered.Long.extend.Goals as goal

pub set_all-requires : goal.set_all-requires
set_all-requires c =
    let these : c.retain.new.self.items ≡ filter (λ x. not (in_list c.args.self.now x)) c.into_list-more.result.items = filter_same _ (λ x. not (in_list c.args.self.now x)) _ (λ x b f' k. search rules) _ _ c.retain.ensures.filtered in
    ap (list_all is_small) (c.deref-2.ensures.value ∙ these ∙ ap (filter (λ x. not (in_list c.args.self.now x))) c.into_list-more.ensures.list)
    ∙ list_all-filter is_small (λ x. not (in_list c.args.self.now x)) c.args.others c.into_list-more.ensures.small

pub invariant_of-self-2 : goal.invariant_of-self-2
invariant_of-self-2 c =
    let xs : List Element = c.self.inside.list.items in
    let more : List Element = c.retain.new.self.items in
    let these : more ≡ filter (λ x. not (in_list c.args.self.now x)) c.into_list-more.result.items = filter_same _ (λ x. not (in_list c.args.self.now x)) _ (λ x b f' k. search rules) _ _ c.retain.ensures.filtered in
    let small : list_all is_small more ≡ true = ap (list_all is_small) (these ∙ ap (filter (λ x. not (in_list c.args.self.now x))) c.into_list-more.ensures.list) ∙ list_all-filter is_small (λ x. not (in_list c.args.self.now x)) c.args.others c.into_list-more.ensures.small in
    let whole : c.extend_from_slice.new.self.items ≡ xs ++ more = c.in_ok-extend_from_slice.ensures.items ∙ ap (λ (l : List Element). xs ++ l) c.deref.ensures.value in
    let is : (x : Element) → entry_of c.set_all.new.self x ≡ (if in_list more x then length xs + 1 else entry_of c.self.inside.places x) = λ x. c.set_all.ensures x ∙ ap₂ (λ (l : List Element) (n : ℕ). if in_list l x then n + 1 else entry_of c.self.inside.places x) c.deref-2.ensures.value (c.len-entry.ensures ∙ c.self.inside.list.ok.0) in (
      rw whole (both_small xs more c.self.invariant.0 small),
      rw whole (put_in_marks (entry_of c.self.inside.places) (entry_of c.set_all.new.self) xs c.self.invariant.1 c.into_list-more.result.items more (these ∙ ap (λ (l : List Element). filter (λ x. not (in_list l x)) c.into_list-more.result.items) (sym c.self.view_is)) is),
    )

pub returns : goal.returns
returns c =
    let xs : List Element = c.self.inside.list.items in
    let more : List Element = c.retain.new.self.items in
    let these : more ≡ filter (λ x. not (in_list c.args.self.now x)) c.into_list-more.result.items = filter_same _ (λ x. not (in_list c.args.self.now x)) _ (λ x b f' k. search rules) _ _ c.retain.ensures.filtered in
    let whole : c.extend_from_slice.new.self.items ≡ xs ++ more = c.in_ok-extend_from_slice.ensures.items ∙ ap (λ (l : List Element). xs ++ l) c.deref.ensures.value in
    let is : (x : Element) → entry_of c.set_all.new.self x ≡ (if in_list more x then length xs + 1 else entry_of c.self.inside.places x) = λ x. c.set_all.ensures x ∙ ap₂ (λ (l : List Element) (n : ℕ). if in_list l x then n + 1 else entry_of c.self.inside.places x) c.deref-2.ensures.value (c.len-entry.ensures ∙ c.self.inside.list.ok.0) in
    ap (standing (entry_of c.set_all.new.self) 1) whole
    ∙ put_in (entry_of c.self.inside.places) (entry_of c.set_all.new.self) xs c.self.invariant.1 c.into_list-more.result.items more (these ∙ ap (λ (l : List Element). filter (λ x. not (in_list l x)) c.into_list-more.result.items) (sym c.self.view_is)) is
    ∙ ap (λ (l : List Element). l ++ more) c.self.view_is
    ∙ ap (λ (l : List Element). c.args.self.now ++ l) (these ∙ ap (filter (λ x. not (in_list c.args.self.now x))) c.into_list-more.ensures.list)
