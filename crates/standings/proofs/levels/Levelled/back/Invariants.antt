use Rattle.standings.proofs.Prelude.{◌≡◌, length, reverse, olders}
use Rattle.standings.proofs.levels.Levelled.back.Given as goal

abbrev pub invariant-loop-entry : goal.invariant-loop-entry
invariant-loop-entry g l = record {
  olders : olders l.self-inside.top.items (reverse l.self-inside.log.items) ≡ l.fn.self.older;
  count : l.self-inside.marks ≡ length l.fn.self.older;
}

abbrev pub decreases-loop-entry : goal.decreases-loop-entry
decreases-loop-entry g l = length l.self-inside.log.items
