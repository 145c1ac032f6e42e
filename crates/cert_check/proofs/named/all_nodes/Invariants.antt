use Rattle.cert_check.proofs.Prelude.{◌≡◌, first_nodes}
use Rattle.cert_check.proofs.named.all_nodes.Given as goal

abbrev pub invariant-loop-n : goal.invariant-loop-n
invariant-loop-n l = l.set ≡ first_nodes l.n
