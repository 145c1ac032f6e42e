use Rattle.rule_constraint.proofs.Prelude.{arith, get_or, IsSpared, sets, Vm}
use Rattle.rule_constraint.proofs.IndexLemmas.{dirty_more, number_at, spared_more}
use Rattle.rule_constraint.proofs.disturb.set_unspared_dirty.Goals as goal
use Rattle.rule_constraint.proofs.disturb.set_unspared_dirty.Goals.{then-not-needs_nothing, else-not-needs_nothing}

pub needs_nothing-requires-clause-constraint : goal.needs_nothing-requires-clause-constraint
needs_nothing-requires-clause-constraint g c = c.requires.numbers (get_or c.args.numbers.now c.loop-k.k 0) (number_at c.args.numbers.now c.loop-k.k c.loop-k-test.true)

pub loop-k-preserved : goal.loop-k-preserved
loop-k-preserved g c =
    elim c.if-not-needs_nothing.branch [
      | then-not-needs_nothing w ↦
          rw (w.dirty-is, w.set_dirty.ensures)
          (dirty_more (IsSpared (g.S.Kinds.kinds c.args.kinds.now) c.args.p.now.given (sets c.args.g.now) (Vm c.args.v)) c.args.numbers.now c.loop-k.k c.args.dirty.now c.loop-k.dirty c.loop-k-test.true
          (omega (arith, c.requires.numbers (get_or c.args.numbers.now c.loop-k.k 0) (number_at c.args.numbers.now c.loop-k.k c.loop-k-test.true), c.requires.count, c.loop-k.invariant.count)) c.loop-k.invariant)
      | else-not-needs_nothing w ↦
          rw w.dirty-is
          (spared_more (IsSpared (g.S.Kinds.kinds c.args.kinds.now) c.args.p.now.given (sets c.args.g.now) (Vm c.args.v)) c.args.numbers.now c.loop-k.k c.args.dirty.now c.loop-k.dirty c.loop-k-test.true
          (c.needs_nothing.ensures w.if-not-needs_nothing.false) c.loop-k.invariant)
    ]

pub needs_nothing-requires-clause-count : goal.needs_nothing-requires-clause-count
needs_nothing-requires-clause-count g c = omega (arith, c.requires.count, c.loop-k.invariant.count)

pub set_dirty-requires : goal.set_dirty-requires
set_dirty-requires g c =
    omega (arith, c.requires.numbers (get_or c.args.numbers.now c.loop-k.k 0) (number_at c.args.numbers.now c.loop-k.k c.loop-k-test.true), c.requires.count, c.loop-k.invariant.count)
