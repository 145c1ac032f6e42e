use Rattle.base.proofs.Public.{◌≡◌, ◌∙◌, [], ◌∷◌, ap, ap₂, err_from_is_err_and, get_or, refl, sym}
use Rattle.cluster.specs.declared.ids.Element.TheVariants.{Vm}
use Rattle.rule_script.specs.Bindings.{bind}
use Rattle.rule_script.specs.Script.{called, called_for_each}
use Rattle.rule_script.proofs.ScriptLemmas.{all_calls, one_call_wrong, one_more_call}
use Rattle.rule_script.proofs.script.make_for_each.Goals as goal

pub returns-in_err-make : goal.returns-in_err-make
returns-in_err-make c =
    let p = c.loop-element.problem.given in
    let env = c.args.variables.now in
    let x = c.args.name.now in
    let call = c.args.call.now in
    let es = c.items-list.result.now in
    let none = Vm (record { 0 = 0 }) in
    let e = get_or es c.loop-element.element-index none in
    let own : c.with.result ≡ bind env x (e ∷ []) = c.with.ensures ∙ ap₂ (λ y v. bind env y v) c.again.ensures c.in_ok-own.ensures in
    let bad = rw own at c.in_err-make.ensures in
    let q = err_from_is_err_and c.from_residual-in_err-make.result c.from_residual-in_err-make.ensures.1 in
    rw (q.1, q.2, ← c.items-list.ensures.list)
    (one_call_wrong p env x call es c.loop-element.element-index (called_for_each c.args.problem.now.given env x call es) c.loop-element.invariant none e c.in_err-make.field-0.0 c.make.new.problem.given c.make.new.problem.given c.loop-element-test.true refl bad)

pub loop-element-preserved : goal.loop-element-preserved
loop-element-preserved c =
    let p = c.loop-element.problem.given in
    let env = c.args.variables.now in
    let x = c.args.name.now in
    let call = c.args.call.now in
    let es = c.items-list.result.now in
    let none = Vm (record { 0 = 0 }) in
    let e = get_or es c.loop-element.element-index none in
    let own : c.with.result ≡ bind env x (e ∷ []) = c.with.ensures ∙ ap₂ (λ y v. bind env y v) c.again.ensures c.in_ok-own.ensures in
    one_more_call p env x call es c.loop-element.element-index (called_for_each c.args.problem.now.given env x call es) c.loop-element.invariant none e c.make.new.problem.given c.loop-element-test.true refl (ap (λ now. called p now call) (sym own) ∙ c.in_ok-make.ensures)

pub returns : goal.returns
returns c =
    let es = c.items-list.result.now in
    rw (← c.items-list.ensures.list)
    (all_calls c.loop-element.problem.given c.args.variables.now c.args.name.now c.args.call.now es c.loop-element.element-index (called_for_each c.args.problem.now.given c.args.variables.now c.args.name.now c.args.call.now es) c.loop-element.invariant c.loop-element-test.false)
