use Rattle.base.proofs.Public.{◌≡◌, ◌+◌, ◌≤◌, IsTrue}
use Rattle.repair.specs.Events.{Reaches}
use Rattle.repair.specs.Prelude.{choices_of, phases_of, point}
use Rattle.executor.proofs.Public.{steps_left}
use Rattle.repair.proofs.following.follow.Given as goal

abbrev pub invariant-turns : goal.invariant-turns
invariant-turns g l = record {
  reached : IsTrue g.I.Source.tells → Reaches l.p.given (choices_of l.fn.m.plan)
      (point (phases_of l.fn.m) 0 (g.I.Source.rest l.fn.input))
      (point (phases_of l.m) l.lines (g.I.Source.rest l.input));
  few : l.lines + steps_left l.p.given (phases_of l.m) ≤ steps_left l.p.given (phases_of l.fn.m);
  problem : l.m.problem ≡ l.p;
  plan : l.m.plan ≡ l.fn.m.plan;
  reads : g.I.Source.faults l.input ≡ g.I.Source.faults l.fn.input;
}

abbrev pub decreases-turns : goal.decreases-turns
decreases-turns g l = steps_left l.p.given (phases_of l.m)
