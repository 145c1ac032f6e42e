use Rattle.closing.proofs.Prelude.{◌≢◌, ℕ, ◌<◌, [], slice_index_or, AreApart, sets}
use Rattle.closing.proofs.quick.apart.are_apart_of_others.Given as goal

abbrev pub invariant-loop-j : goal.invariant-loop-j
invariant-loop-j l = (k : ℕ) → k < l.j → l.part ≢ k → AreApart l.p.given (sets l.g) l.t l.machines (slice_index_or l.parts k [])
