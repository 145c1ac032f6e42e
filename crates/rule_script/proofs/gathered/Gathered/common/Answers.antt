use Rattle.std.proofs.lemmas.Fn.{filter_same}
use Rattle.base.proofs.Public.{◌≡◌, ◌∙◌, ap, filter, rules}
use Rattle.rule_script.specs.Marks.{in_list}
use Rattle.rule_script.specs.Small.{is_small}
use Rattle.rule_script.proofs.ElementLemmas.{list_all-filter}
use Rattle.rule_script.proofs.gathered.Gathered.common.Goals as goal

pub new-requires-2 : goal.new-requires-2
new-requires-2 c =
    let left : c.retain.new.self.items ≡ filter (λ x. in_list c.in_ok-others.others x) c.into_list-list.result.items = filter_same _ (λ x. in_list c.in_ok-others.others x) _ (λ x b f' k. search rules) _ _ c.retain.ensures.filtered in
    rw (left, c.into_list-list.ensures.list) (list_all-filter is_small (λ x. in_list c.in_ok-others.others x) c.in_ok-elements.elements c.into_list-list.ensures.small)

pub returns : goal.returns
returns c =
    let left : c.retain.new.self.items ≡ filter (λ x. in_list c.in_ok-others.others x) c.into_list-list.result.items = filter_same _ (λ x. in_list c.in_ok-others.others x) _ (λ x b f' k. search rules) _ _ c.retain.ensures.filtered in
    c.new-3.ensures
    ∙ c.new-2.ensures
    ∙ left
    ∙ ap (filter (λ x. in_list c.in_ok-others.others x)) (c.into_list-list.ensures.list ∙ c.in_ok-elements.ensures)
    ∙ ap (λ l. filter (λ x. in_list l x) c.args.self) (c.in_ok-others.ensures ∙ c.new.ensures)
