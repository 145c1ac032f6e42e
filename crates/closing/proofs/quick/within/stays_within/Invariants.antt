use Rattle.closing.proofs.Prelude.{◌+◌, ◌*◌, ◌≤◌, AreWithin, max_amount, nodes_of, sets}
use Rattle.closing.proofs.quick.within.stays_within.Given as goal

abbrev pub invariant-loop-i : goal.invariant-loop-i
invariant-loop-i l = record {
  within : AreWithin l.p.given (sets l.g) l.weight (nodes_of l.p.given l.area) l.i l.total l.more;
  small : l.total ≤ l.i * (2 * max_amount);
  small_more : l.more ≤ 2 * max_amount;
  fits : l.total + l.more ≤ l.amount;
}
