use Rattle.rule_frame.specs.Prelude.{IsCleanUpTo, sets}
use Rattle.rule_frame.proofs.watcher.ask.Given as goal

abbrev pub invariant-loop-i : goal.invariant-loop-i
invariant-loop-i g l = IsCleanUpTo (g.W.Watcher.watch l.w l.p.given) l.p.given (sets l.g) l.i l.fn.dirty l.dirty
