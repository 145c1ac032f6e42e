use Rattle.relax.proofs.Prelude.{◌≡◌, ◌*◌, ◌^◌, ◌≤◌, end_of, least, seen, sum_to, vm}
use Rattle.relax.proofs.totals.machine_ends.Given as goal

abbrev pub invariant-loop-v : goal.invariant-loop-v
invariant-loop-v l = record {
  total : l.total ≡ sum_to l.v (λ v. least (end_of l.p.given (vm v)) (seen l.view.region.now l.view.lens (vm v)));
  small : l.total ≤ l.v * 2 ^ 64;
}
