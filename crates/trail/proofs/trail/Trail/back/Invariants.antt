use Rattle.std.proofs.Common.{◌≡◌, length, reverse}
use Rattle.trail.specs.Logs.{marked, CanUndoAll}
use Rattle.trail.proofs.trail.Trail.back.Given as goal

abbrev pub invariant-loop-entry : goal.invariant-loop-entry
invariant-loop-entry l = record {
  undo : CanUndoAll l.self-inside.region (reverse l.self-inside.log.items);
  marks : marked l.self-inside.region (reverse l.self-inside.log.items) ≡ l.fn.self.marks;
  count : l.self-inside.marks ≡ length l.fn.self.marks;
}

abbrev pub decreases-loop-entry : goal.decreases-loop-entry
decreases-loop-entry l = length l.self-inside.log.items
