use Rattle.base.proofs.Public.{◌≡◌, ◌++◌, drop, StartsWith, flat_map, IsTrue}
use Rattle.replay.specs.Prelude.{at_line, choices_of}
use Rattle.replay.proofs.writing.write_instants.Given as goal

abbrev pub invariant-loop-t : goal.invariant-loop-t
invariant-loop-t g l = record {
  written : IsTrue g.O.Sink.tells → g.O.Sink.written l.out ++ flat_map (at_line l.p.given (choices_of l.plan)) (drop l.t-index l.instants) ≡ g.O.Sink.written l.fn.out ++ flat_map (at_line l.p.given (choices_of l.plan)) l.instants;
  stays : IsTrue g.O.Sink.tells → StartsWith (g.O.Sink.written l.out) (g.O.Sink.written l.fn.out);
  faults : g.O.Sink.faults l.out ≡ g.O.Sink.faults l.fn.out;
}
