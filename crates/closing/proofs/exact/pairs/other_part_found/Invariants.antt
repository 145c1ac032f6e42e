use Rattle.closing.proofs.Prelude.{◌≢◌, ℕ, ◌<◌, [], slice_index_or, IsAnyOf, IsFreeOf, sets, ShareNode}
use Rattle.closing.proofs.exact.pairs.other_part_found.Given as goal

abbrev pub invariant-loop-j : goal.invariant-loop-j
invariant-loop-j l = (k : ℕ) → k < l.j → l.part ≢ k → IsFreeOf (IsAnyOf (slice_index_or l.parts k []) (ShareNode l.p.given l.v.0)) l.p.given (sets l.g) l.t
