use Rattle.closing.proofs.Prelude.{ℕ, ◌<◌, [], slice_index_or, IsAnyOf, IsFreeOf, MeetsOtherPart, sets}
use Rattle.closing.proofs.exact.pairs.split_found.Given as goal

abbrev pub invariant-loop-i : goal.invariant-loop-i
invariant-loop-i l = (k : ℕ) → k < l.i → IsFreeOf (IsAnyOf (slice_index_or l.parts k []) (MeetsOtherPart l.p.given l.parts k)) l.p.given (sets l.g) l.t
