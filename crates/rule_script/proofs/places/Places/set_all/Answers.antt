use Rattle.cluster.specs.declared.ids.Element.TheVariants.{Vm}
use Rattle.rule_script.specs.Elements.{entry_of}
use Rattle.rule_script.proofs.ElementLemmas.{one_more_numbered}
use Rattle.rule_script.proofs.places.Places.set_all.Goals as goal

pub loop-e-preserved : goal.loop-e-preserved
loop-e-preserved c = λ x.
    one_more_numbered c.args.list.now c.loop-e.e-index (Vm (record { 0 = 0 })) x c.args.number (entry_of c.args.self.now x) (entry_of c.loop-e.self x) (entry_of c.set.new.self x) c.loop-e-test.true (c.loop-e.invariant x) (c.set.ensures x)
