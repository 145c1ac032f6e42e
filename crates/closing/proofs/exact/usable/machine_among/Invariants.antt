use Rattle.closing.proofs.Prelude.{NoneAmong, sets}
use Rattle.closing.proofs.exact.usable.machine_among.Given as goal

abbrev pub invariant-loop-i : goal.invariant-loop-i
invariant-loop-i l = NoneAmong l.p.given (sets l.g) l.n.0 l.t l.hosted l.i
