use Rattle.std.proofs.Common.{ℕ, ◌<◌, IsTrue, slice_index_or}
use Rattle.slices.specs.Prelude.{element_at, Idle, inventory_of, is_legal}
use Rattle.slices.proofs.plan.is_plan.Given as goal

abbrev pub invariant-loop-x : goal.invariant-loop-x
invariant-loop-x l = (x : ℕ) → x < l.x → IsTrue (is_legal l.p.given (element_at (inventory_of l.p.given) x) (slice_index_or l.choices x Idle))
