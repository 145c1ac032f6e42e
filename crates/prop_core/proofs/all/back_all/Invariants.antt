use Rattle.prop_core.specs.Lists.{BackSame}
use Rattle.prop_core.proofs.TurnLemmas.{Turned}
use Rattle.prop_core.proofs.all.back_all.Given as goal

abbrev pub invariant-loop-i : goal.invariant-loop-i
invariant-loop-i g l = Turned (λ b. (goal.Propagator-dyn g (b.vtable, b.value)).meaning b.value) BackSame l.i l.fn.rules.items l.rules.items
