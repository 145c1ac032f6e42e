use Rattle.base.proofs.Public.{◌∙◌, ap}
use Rattle.cluster.specs.Prelude.{no_nodes}
use Rattle.cluster.specs.declared.ids.Element.TheVariants.{Vm}
use Rattle.rule_script.specs.Elements.{nodes_with}
use Rattle.rule_script.proofs.ElementLemmas.{a_machine_there, one_more_node}
use Rattle.rule_script.proofs.elements.Elements.nodes.Goals as goal

pub loop-e-preserved : goal.loop-e-preserved
loop-e-preserved c =
    let es = c.deref-e-items.result.now in
    one_more_node es c.loop-e.e-index c.loop-e.found (nodes_with no_nodes es) c.loop-e.invariant (Vm (record { 0 = 0 })) c.in-Node.n c.insert.new.self c.loop-e-test.true c.in-Node.is c.insert.ensures.set

pub returns-in-Vm : goal.returns-in-Vm
returns-in-Vm c =
    let es = c.deref-e-items.result.now in
    a_machine_there es c.loop-e.e-index c.loop-e.found (nodes_with no_nodes es) c.loop-e.invariant (Vm (record { 0 = 0 })) c.in-Vm.field-0 c.loop-e-test.true c.in-Vm.is
    ∙ ap (nodes_with no_nodes) (c.deref-e-items.ensures.value ∙ c.self.view_is)
