use Rattle.base.proofs.Public.{◌∙◌, ap}
use Rattle.rule_script.specs.Bindings.{lookup}
use Rattle.rule_script.proofs.BindingLemmas.{lookup_there}
use Rattle.rule_script.proofs.bindings.Variables.get.Goals as goal

pub returns : goal.returns
returns c = c.get.ensures.value ∙ lookup_there (λ k. k.items) c.self.inside.values.entries c.args.name.now ∙ ap (λ env. lookup env c.args.name.now) c.self.view_is
