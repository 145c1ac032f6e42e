use Rattle.rule_place.specs.Prelude.{sets, Vm}
use Rattle.rule_place.proofs.NodeLemmas.{nodes_spared, untouched}
use Rattle.rule_place.proofs.nodes.set_nodes_dirty.Goals as goal

pub returns-in-Vm : goal.returns-in-Vm
returns-in-Vm c =
    rw c.in-Vm.is
    (nodes_spared c.args.p.now.given c.in-Vm.v _ (sets c.args.g.now (Vm c.in-Vm.v)) c.args.dirty.now c.set_only_dirty.new.dirty c.args.p.now.sound (rw c.in-Vm.is at c.requires.fewer)
    (untouched c.args.p.now.given c.in-Vm.v.0 _ (sets c.args.g.now (Vm c.in-Vm.v)) c.args.dirty.now c.set_host_dirty.new.dirty c.set_only_dirty.new.dirty c.set_host_dirty.ensures (rw c.domain.ensures.domain at c.set_only_dirty.ensures)))

pub set_host_dirty-requires-clause-fewer : goal.set_host_dirty-requires-clause-fewer
set_host_dirty-requires-clause-fewer c = rw c.in-Vm.is at c.requires.fewer
