use Rattle.std.proofs.Common.{◌≡◌, ◌||◌, ℕ, false, slice_index_or}
use Rattle.replay.specs.Prelude.{choices_of, turns_below}
use Rattle.replay.proofs.events.mark_elements.Given as goal

abbrev pub invariant-loop-x : goal.invariant-loop-x
invariant-loop-x l = (t : ℕ) → slice_index_or l.marks t false ≡ (slice_index_or l.initial.marks t false || turns_below l.p.given (choices_of l.plan) l.x t)
