use Rattle.closing.proofs.Prelude.{ℕ, ◌<◌, IsSpared, nodes_of, sets}
use Rattle.closing.proofs.exact.above.machine_above.Given as goal

abbrev pub invariant-loop-i : goal.invariant-loop-i
invariant-loop-i l = (v : ℕ) → v < l.i → IsSpared l.p.given (sets l.g) l.weight (nodes_of l.p.given l.area) l.t l.spare v
