use Rattle.rule_constraint.proofs.Prelude.{inl, inr, subst, arith, Contains, IsSpared, sets, TheNode, Vm}
use Rattle.rule_constraint.proofs.AddLemmas.{looking_machine, looking_node}
use Rattle.rule_constraint.proofs.DirtyLemmas.{kept_disturbed}
use Rattle.rule_constraint.proofs.disturb.set_looking_dirty.Goals as goal

pub set_unspared_dirty-requires-clause-numbers : goal.set_unspared_dirty-requires-clause-numbers
set_unspared_dirty-requires-clause-numbers g c = λ i h. c.requires.right.within (Vm c.in-Vm.v) i (inl (subst (λ xs. Contains xs i) c.of_machine.ensures h))

pub set_unspared_dirty-requires-in-Vm-clause-numbers : goal.set_unspared_dirty-requires-in-Vm-clause-numbers
set_unspared_dirty-requires-in-Vm-clause-numbers g c = λ i h. c.requires.right.within (Vm c.in-Vm.v) i (inr (subst (λ xs. Contains xs i) c.everywhere.ensures h))

pub set_each_dirty-requires : goal.set_each_dirty-requires
set_each_dirty-requires g c = λ i h. omega (arith, c.requires.count, c.requires.right.within (TheNode c.in-Node.n) i (subst (λ xs. Contains xs i) c.of_node.ensures h))

pub returns-in-Vm : goal.returns-in-Vm
returns-in-Vm g c =
    λ old fewer. rw c.in-Vm.is
    (kept_disturbed (g.S.Kinds.kinds c.args.kinds.now) c.args.p.now.given (sets c.args.g.now) (Vm c.in-Vm.v) old _ _ (rw c.in-Vm.is at fewer)
    (looking_machine c.args.p.now.given c.args.index.now.lists c.requires.right c.args.dirty.now
    (IsSpared (g.S.Kinds.kinds c.args.kinds.now) c.args.p.now.given (sets c.args.g.now) (Vm c.in-Vm.v)) c.in-Vm.v c.of_machine.result.now c.set_unspared_dirty.new.dirty c.set_unspared_dirty-in-Vm.new.dirty
    (rw c.in-Vm.is at c.requires.element) c.of_machine.ensures c.set_unspared_dirty.ensures (rw c.everywhere.ensures at c.set_unspared_dirty-in-Vm.ensures)))

pub returns-in-Node : goal.returns-in-Node
returns-in-Node g c =
    λ old fewer. rw c.in-Node.is
    (kept_disturbed (g.S.Kinds.kinds c.args.kinds.now) c.args.p.now.given (sets c.args.g.now) (TheNode c.in-Node.n) old _ _ (rw c.in-Node.is at fewer)
    (looking_node c.args.p.now.given c.args.index.now.lists c.requires.right c.args.dirty.now
    (IsSpared (g.S.Kinds.kinds c.args.kinds.now) c.args.p.now.given (sets c.args.g.now) (TheNode c.in-Node.n)) c.in-Node.n c.of_node.result.now c.set_each_dirty.new.dirty
    (rw c.in-Node.is at c.requires.element) c.of_node.ensures c.set_each_dirty.ensures))
