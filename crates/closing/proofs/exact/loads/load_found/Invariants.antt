use Rattle.closing.proofs.Prelude.{ℕ, ◌<◌, IsFreeOf, IsOverload, nodes_of, sets}
use Rattle.closing.proofs.exact.loads.load_found.Given as goal

abbrev pub invariant-loop-r : goal.invariant-loop-r
invariant-loop-r l = (r : ℕ) → r < l.r → IsFreeOf (λ s. IsOverload l.p.given s r (nodes_of l.p.given l.area)) l.p.given (sets l.g) l.t
