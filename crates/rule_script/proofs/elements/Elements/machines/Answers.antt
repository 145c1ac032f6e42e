use Rattle.base.proofs.Public.{◌∙◌, ap}
use Rattle.cluster.specs.declared.ids.Element.TheVariants.{Vm}
use Rattle.rule_script.specs.Elements.{machines_of}
use Rattle.rule_script.proofs.ElementLemmas.{a_node_there, one_more_machine}
use Rattle.rule_script.proofs.elements.Elements.machines.Goals as goal

pub loop-e-preserved : goal.loop-e-preserved
loop-e-preserved c =
    let es = c.deref-e-items.result.now in
    rw c.in_ok-push-in-Vm.ensures.items (one_more_machine es c.loop-e.e-index c.loop-e.found.items (machines_of es) c.loop-e.invariant (Vm (record { 0 = 0 })) c.in-Vm.v c.loop-e-test.true c.in-Vm.is)

pub returns-in-Node : goal.returns-in-Node
returns-in-Node c =
    let es = c.deref-e-items.result.now in
    a_node_there es c.loop-e.e-index c.loop-e.found.items (machines_of es) c.loop-e.invariant (Vm (record { 0 = 0 })) c.in-Node.field-0 c.loop-e-test.true c.in-Node.is
    ∙ ap machines_of (c.deref-e-items.ensures.value ∙ c.self.view_is)
