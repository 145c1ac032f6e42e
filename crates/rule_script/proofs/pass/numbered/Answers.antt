use Rattle.base.proofs.Public.{◌∙◌, ◌+◌, ◌++◌, ap, decimal, sym}
use Rattle.cluster.specs.Prelude.{element_named}
use Rattle.rule_script.specs.Values.{numbered}
use Rattle.rule_script.proofs.PassLemmas.{all_numbers, no_such_number, one_more_number}
use Rattle.rule_script.proofs.pass.numbered.Goals as goal

pub returns-in-None : goal.returns-in-None
returns-in-None c =
    no_such_number c.args.cluster.now.given c.args.name.now c.args.first c.args.count c.loop-step.step c.loop-step.elements (numbered c.args.cluster.now.given c.args.name.now c.args.first c.args.count) c.loop-step.invariant.1 c.loop-step-test.true
    (sym c.in-None.is ∙ c.in_ok-element.ensures.element ∙ ap (λ x. element_named c.args.cluster.now.given (x ++ decimal (c.args.first + c.loop-step.step))) c.loop-step.invariant.0)

pub loop-step-preserved : goal.loop-step-preserved
loop-step-preserved c = (
  c.in_ok-element.ensures.name ∙ c.loop-step.invariant.0,
  rw c.in_ok-push-in-Some.ensures
      (one_more_number c.args.cluster.now.given c.args.name.now c.args.first c.args.count c.loop-step.step c.loop-step.elements (numbered c.args.cluster.now.given c.args.name.now c.args.first c.args.count) c.loop-step.invariant.1 c.in-Some.element c.loop-step-test.true
      (sym c.in-Some.is ∙ c.in_ok-element.ensures.element ∙ ap (λ x. element_named c.args.cluster.now.given (x ++ decimal (c.args.first + c.loop-step.step))) c.loop-step.invariant.0)),
)

pub returns : goal.returns
returns c = all_numbers c.args.cluster.now.given c.args.name.now c.args.first c.args.count c.loop-step.step c.loop-step.elements (numbered c.args.cluster.now.given c.args.name.now c.args.first c.args.count) c.loop-step.invariant.1 c.loop-step-test.false
