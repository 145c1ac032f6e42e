use Rattle.std.proofs.Common.{map}
use Rattle.base.proofs.Public.{◌∙◌, ap, ap₂, sym}
use Rattle.rule_script.specs.Bindings.{bind}
use Rattle.rule_script.proofs.BindingLemmas.{bind_found, bind_there}
use Rattle.rule_script.proofs.bindings.Variables.bind.Goals as goal
use Rattle.rule_script.proofs.bindings.Variables.bind.Goals.{in-Some-1, in-None-1}

pub returns-in-Some-clause-bound : goal.returns-in-Some-clause-bound
returns-in-Some-clause-bound c =
    let stored = bind_found (λ k. k.items) c.self.inside.values.entries c.in-Some.place c.args.name.now c.args.value (sym c.in-Some.ensures.index) ∙ ap (λ env. bind env c.args.name.now c.args.value) c.self.view_is in
    stored

pub returns-in_ok-insert-in-None-clause-bound : goal.returns-in_ok-insert-in-None-clause-bound
returns-in_ok-insert-in-None-clause-bound c =
    let stored =
    ap (map (λ e. (e.0.items, e.1))) c.in_ok-insert-in-None.ensures.entries
    ∙ bind_there (λ k. k.items) c.self.inside.values.entries c.in_ok-key-in-None.key c.args.value
    ∙ ap₂ (λ env name. bind env name c.args.value) c.self.view_is c.in_ok-key-in-None.ensures.items in
    elim c.match-branch-3.branch [ in-Some-1 w ↦ w.self-is ∙ stored | in-None-1 w ↦ w.self-is ∙ stored ]
