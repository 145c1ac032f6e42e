use Rattle.relax.proofs.StartLemmas.{HoldsUpto}
use Rattle.relax.proofs.start.legal_domain.Given as goal

abbrev pub invariant-loop-n : goal.invariant-loop-n
invariant-loop-n l = HoldsUpto l.p.given l.fn.e l.n l.domain
