use Rattle.rule_constraint.specs.Prelude.{AreDirty, IsSpared, sets, Vm}
use Rattle.rule_constraint.proofs.disturb.set_unspared_dirty.Given as goal

abbrev pub invariant-loop-k : goal.invariant-loop-k
invariant-loop-k g l = AreDirty (IsSpared (g.S.Kinds.kinds l.kinds) l.p.given (sets l.g) (Vm l.v)) l.k l.numbers l.fn.dirty l.dirty
