use Rattle.closing.proofs.Prelude.{ℕ, ◌<◌, IsFreeOf, IsOverload, nodes_of, sets}
use Rattle.closing.proofs.quick.steady.is_never_overloaded.Given as goal

abbrev pub invariant-loop-r : goal.invariant-loop-r
invariant-loop-r l = (k t : ℕ) → k < l.r → IsFreeOf (λ b. IsOverload l.p.given b k (nodes_of l.p.given l.area)) l.p.given (sets l.g) t
