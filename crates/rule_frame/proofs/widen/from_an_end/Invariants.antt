use Rattle.rule_frame.proofs.Prelude.{◌-◌, ◌≤◌, CutHolds, part_past, sets}
use Rattle.rule_frame.proofs.widen.from_an_end.Given as goal

abbrev pub invariant-steps : goal.invariant-steps
invariant-steps g l = record {
  within : l.top ≤ l.row.hi - l.row.lo;
  near : l.best ≤ l.row.hi - l.row.lo;
  holds : CutHolds l.p.given (sets l.g) l.e (part_past l.row l.from_first l.best) l.found;
}

abbrev pub decreases-steps : goal.decreases-steps
decreases-steps g l = l.top - l.best
