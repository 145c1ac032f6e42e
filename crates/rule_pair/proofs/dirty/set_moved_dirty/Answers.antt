use Rattle.rule_pair.proofs.dirty.set_moved_dirty.Goals as goal

pub set_machine_dirty-requires-clause-fewer : goal.set_machine_dirty-requires-clause-fewer
set_machine_dirty-requires-clause-fewer c = rw c.in-Vm.is at c.requires.fewer

pub returns-in-Vm : goal.returns-in-Vm
returns-in-Vm c = rw c.in-Vm.is c.set_machine_dirty.ensures

pub returns-in-Node : goal.returns-in-Node
returns-in-Node c = c.set_looking_dirty.ensures _ c.requires.fewer
