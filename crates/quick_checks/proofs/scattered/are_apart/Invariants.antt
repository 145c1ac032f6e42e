use Rattle.quick_checks.proofs.Prelude.{ℕ, ◌<◌, one, seen, sure}
use Rattle.reasons.specs.Prelude.{HasOutside}
use Rattle.quick_checks.proofs.scattered.are_apart.Given as goal

abbrev pub invariant-loop-n : goal.invariant-loop-n
invariant-loop-n l = (k : ℕ) → k < l.n → HasOutside (sure l.p.given (seen l.view.region.now l.view.lens) l.t) l.machines (one k)
