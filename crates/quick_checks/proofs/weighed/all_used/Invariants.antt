use Rattle.quick_checks.proofs.Prelude.{Amount, IsWeighed, nodes_of, seen, sure}
use Rattle.quick_checks.proofs.weighed.all_used.Given as goal

abbrev pub invariant-loop-i : goal.invariant-loop-i
invariant-loop-i l = IsWeighed l.p.given (sure l.p.given (seen l.view.region.now l.view.lens) l.t) (Amount l.r) (nodes_of l.p.given l.area) l.sum
