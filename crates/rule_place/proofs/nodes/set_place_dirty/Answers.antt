use Rattle.std.proofs.Common.{refl}
use Rattle.rule_place.proofs.NodeLemmas.{at_spared, none_spared}
use Rattle.rule_place.proofs.nodes.set_place_dirty.Goals as goal

pub returns-in-Nowhere : goal.returns-in-Nowhere
returns-in-Nowhere c = rw c.in-Nowhere.is (none_spared c.args.p.now.given _ c.args.dirty.now (λ k. refl))

pub returns-in-At : goal.returns-in-At
returns-in-At c = rw c.in-At.is (at_spared c.args.p.now.given c.in-At.n c.args.dirty.now c.set_node_dirty.new.dirty c.set_node_dirty.ensures)
