use Rattle.relax.proofs.Prelude.{◌≡◌, ◌≤◌, cond, has_node, sum_to}
use Rattle.relax.proofs.amounts.nodes_in.Given as goal

abbrev pub invariant-loop-n : goal.invariant-loop-n
invariant-loop-n l = record { total : l.total ≡ sum_to l.n (λ n. cond (has_node l.set n) 1 0); small : l.total ≤ l.n }
