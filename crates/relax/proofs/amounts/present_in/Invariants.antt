use Rattle.relax.proofs.Prelude.{◌≡◌, ◌≤◌, length, take, filter, nodes_of, seen, sure}
use Rattle.relax.proofs.amounts.present_in.Given as goal

abbrev pub invariant-loop-v : goal.invariant-loop-v
invariant-loop-v l = record {
  total : l.total ≡ length (filter (λ v. (sure l.p.given (seen l.view.region.now l.view.lens) l.t).present v.0 (nodes_of l.p.given l.area)) (take l.v-index l.machines));
  small : l.total ≤ l.v-index;
}
