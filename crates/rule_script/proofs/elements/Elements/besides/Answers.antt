use Rattle.std.proofs.lemmas.Fn.{filter_same}
use Rattle.base.proofs.Public.{◌≡◌, ◌∙◌, ap, filter, not, rules}
use Rattle.rule_script.specs.Marks.{in_list}
use Rattle.rule_script.specs.Small.{is_small}
use Rattle.rule_script.proofs.ElementLemmas.{list_all-filter}
use Rattle.rule_script.proofs.elements.Elements.besides.Goals as goal

pub invariant_of-result : goal.invariant_of-result
invariant_of-result c =
    let left : c.retain.new.self.items ≡ filter (λ x. not (in_list c.args.others.now x)) c.self.inside.list.items = filter_same _ (λ x. not (in_list c.args.others.now x)) _ (λ x b f' k. search rules) _ _ c.retain.ensures.filtered in
    rw left (list_all-filter is_small (λ x. not (in_list c.args.others.now x)) c.self.inside.list.items c.self.invariant)

pub returns : goal.returns
returns c =
    let left : c.retain.new.self.items ≡ filter (λ x. not (in_list c.args.others.now x)) c.self.inside.list.items = filter_same _ (λ x. not (in_list c.args.others.now x)) _ (λ x b f' k. search rules) _ _ c.retain.ensures.filtered in
    left ∙ ap (filter (λ x. not (in_list c.args.others.now x))) c.self.view_is
