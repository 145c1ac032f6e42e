use Rattle.closing.proofs.Prelude.{◌≡◌, ℕ, ◌<◌, false, IsTrue, FailAtEnds, has_node, IsPoweredUnder, node, sets, sure}
use Rattle.closing.proofs.exact.capacities.one_more_found.Given as goal

abbrev pub invariant-loop-i : goal.invariant-loop-i
invariant-loop-i l = (n : ℕ) → n < l.i → IsTrue (has_node l.nodes n) → (sure l.p.given (sets l.g) l.t).powered n ≡ false → FailAtEnds (IsPoweredUnder l.p.given n l.t) (sets l.g (node n))
