use Rattle.closing.proofs.Prelude.{ℕ, ◌<◌, IsNodeSpared, nodes_of, sets}
use Rattle.closing.proofs.exact.loads.node_missed.Given as goal

abbrev pub invariant-loop-i : goal.invariant-loop-i
invariant-loop-i l = (n : ℕ) → n < l.i → IsNodeSpared l.p.given (sets l.g) l.r (nodes_of l.p.given l.area) l.t l.spare n
