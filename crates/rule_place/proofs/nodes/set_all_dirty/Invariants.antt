use Rattle.rule_place.specs.Dirty.{AreDirtyUpTo}
use Rattle.rule_place.proofs.nodes.set_all_dirty.Given as goal

abbrev pub invariant-loop-i : goal.invariant-loop-i
invariant-loop-i l = AreDirtyUpTo l.i l.fn.dirty l.dirty
