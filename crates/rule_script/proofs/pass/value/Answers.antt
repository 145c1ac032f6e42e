use Rattle.base.proofs.Public.{◌∙◌, List, Ok, ap, sym}
use Rattle.cluster.specs.declared.ids.Element.{Element}
use Rattle.rule_script.proofs.PassLemmas.{set_worth}
use Rattle.rule_script.proofs.pass.value.Goals as goal

pub returns-in_ok-settled-in-Ok : goal.returns-in_ok-settled-in-Ok
returns-in_ok-settled-in-Ok c = sym (set_worth c.args.cluster.now.given c.args.bindings.now c.tokens.result.now c.args.set.now c.tokens.ensures.some c.tokens.ensures.set) ∙ sym c.in_ok-gathered.ensures ∙ c.in-Ok.is ∙ ap (λ (l : List Element). Ok l) (sym c.in_ok-settled-in-Ok.ensures)

pub returns-in-Err : goal.returns-in-Err
returns-in-Err c = sym (set_worth c.args.cluster.now.given c.args.bindings.now c.tokens.result.now c.args.set.now c.tokens.ensures.some c.tokens.ensures.set) ∙ sym c.in_ok-gathered.ensures ∙ c.in-Err.is
