use Rattle.base.proofs.Public.{◌≡◌, ◌∙◌, ◌++◌, ap}
use Rattle.cluster.specs.Prelude.{element_named}
use Rattle.rule_script.proofs.pass.found_joined.Goals as goal

pub returns-clause-element : goal.returns-clause-element
returns-clause-element c =
    let text : c.deref.result.now ≡ c.args.name.now.items ++ c.args.digits.now = c.deref.ensures.value ∙ c.in_ok-extend_from_slice.ensures.items in
    c.found-element.ensures.element ∙ ap (element_named c.args.cluster.now.given) text
