use Rattle.base.proofs.Public.{◌≡◌, ◌+◌, ◌≤◌, StartsWith, IsTrue}
use Rattle.transcript.specs.Prelude.{choices_of, phases_of, point, Reaches}
use Rattle.executor.proofs.Public.{steps_left}
use Rattle.transcript.proofs.running.follow.Given as goal

abbrev pub invariant-turns : goal.invariant-turns
invariant-turns g l = record {
  reached : IsTrue g.I.Source.tells → IsTrue g.O.Sink.tells → Reaches l.p.given (choices_of l.fn.m.plan)
      (point (phases_of l.fn.m) 0 (g.I.Source.rest l.fn.input) (g.O.Sink.written l.fn.out))
      (point (phases_of l.m) l.lines (g.I.Source.rest l.input) (g.O.Sink.written l.out));
  stays : IsTrue g.O.Sink.tells → StartsWith (g.O.Sink.written l.out) (g.O.Sink.written l.fn.out);
  few : l.lines + steps_left l.p.given (phases_of l.m) ≤ steps_left l.p.given (phases_of l.fn.m);
  problem : l.m.problem ≡ l.p;
  plan : l.m.plan ≡ l.fn.m.plan;
  reads : g.I.Source.faults l.input ≡ g.I.Source.faults l.fn.input;
  writes : g.O.Sink.faults l.out ≡ g.O.Sink.faults l.fn.out;
}

abbrev pub decreases-turns : goal.decreases-turns
decreases-turns g l = steps_left l.p.given (phases_of l.m)
