use Rattle.rule_constraint.specs.Indexes.{AreDirty}
use Rattle.rule_constraint.proofs.disturb.set_each_dirty.Given as goal

abbrev pub invariant-loop-k : goal.invariant-loop-k
invariant-loop-k l = AreDirty (λ c. ⊥) l.k l.numbers l.fn.dirty l.dirty
