use Rattle.std.proofs.Common.{IsTrue}
use Rattle.base.proofs.Public.{◌≡◌, ◌++◌, drop, StartsWith, flat_map}
use Rattle.show.specs.Prelude.{action_line, choices_of}
use Rattle.show.proofs.writing.write_actions.Given as goal

abbrev pub invariant-loop-action : goal.invariant-loop-action
invariant-loop-action g l = record {
  written : IsTrue g.O.Sink.tells → g.O.Sink.written l.out ++ flat_map (action_line l.p.given (choices_of l.plan)) (drop l.action-index l.actions) ≡ g.O.Sink.written l.fn.out ++ flat_map (action_line l.p.given (choices_of l.plan)) l.actions;
  stays : IsTrue g.O.Sink.tells → StartsWith (g.O.Sink.written l.out) (g.O.Sink.written l.fn.out);
  faults : g.O.Sink.faults l.out ≡ g.O.Sink.faults l.fn.out;
}
