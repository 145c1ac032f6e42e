use Rattle.rule_load.proofs.Prelude.{◌≢◌, subst, AreSpared, choices, domain_at, domain_before, TheNode, sets, Vm}
use Rattle.rule_load.proofs.DirtyLemmas.{disturbed, node_spared}
use Rattle.rule_load.proofs.dirty.set_disturbed_dirty.Goals as goal

pub set_machine_dirty-requires-clause-fewer : goal.set_machine_dirty-requires-clause-fewer
set_machine_dirty-requires-clause-fewer c = rw c.in-Vm.is at c.requires.fewer

pub returns-in-Vm : goal.returns-in-Vm
returns-in-Vm c =
    rw c.in-Vm.is
    (disturbed c.args.p.now.given (sets c.args.g.now) (Vm c.in-Vm.v) (choices (domain_before c.args.before c.args.kept.now (domain_at c.args.g.now (Vm c.in-Vm.v)))) c.args.dirty.now c.set_one_dirty.new.dirty c.set_machine_dirty.new.dirty c.requires.count
    (subst (λ k. AreSpared (λ i. i ≢ k) c.args.dirty.now c.set_one_dirty.new.dirty) c.node_total.ensures c.set_one_dirty.ensures) c.set_machine_dirty.ensures)

pub returns-in-Node : goal.returns-in-Node
returns-in-Node c =
    rw c.in-Node.is
    (disturbed c.args.p.now.given (sets c.args.g.now) (TheNode c.in-Node.n) (choices (domain_before c.args.before c.args.kept.now (domain_at c.args.g.now (TheNode c.in-Node.n)))) c.args.dirty.now c.set_one_dirty.new.dirty c.set_one_dirty-in-Node.new.dirty c.requires.count
    (subst (λ k. AreSpared (λ i. i ≢ k) c.args.dirty.now c.set_one_dirty.new.dirty) c.node_total.ensures c.set_one_dirty.ensures)
    (node_spared c.args.p.now.given c.in-Node.n (choices (domain_before c.args.before c.args.kept.now (domain_at c.args.g.now (TheNode c.in-Node.n)))) (sets c.args.g.now (TheNode c.in-Node.n)) c.set_one_dirty.new.dirty c.set_one_dirty-in-Node.new.dirty c.set_one_dirty-in-Node.ensures))
