use Rattle.relax.proofs.Prelude.{ℕ, ◌<◌, IsTrue, has_node}
use Rattle.relax.proofs.area.has_each.Given as goal

abbrev pub invariant-loop-n : goal.invariant-loop-n
invariant-loop-n l = (m : ℕ) → m < l.n → IsTrue (has_node l.set m)
