use Rattle.closing.proofs.Prelude.{◌≢◌, ℕ, ◌<◌, [], length, slice_index_or, AreApart, sets}
use Rattle.closing.proofs.quick.apart.are_parts_apart.Given as goal

abbrev pub invariant-loop-i : goal.invariant-loop-i
invariant-loop-i l = (k j : ℕ) → k < l.i → j < length l.parts → k ≢ j → AreApart l.p.given (sets l.g) l.t (slice_index_or l.parts k []) (slice_index_or l.parts j [])
