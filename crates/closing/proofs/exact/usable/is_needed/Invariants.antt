use Rattle.closing.proofs.Prelude.{◌≡◌, ℕ, ◌<◌, false, sets, stands_on, sure}
use Rattle.closing.proofs.exact.usable.is_needed.Given as goal

abbrev pub invariant-loop-i : goal.invariant-loop-i
invariant-loop-i l = (v : ℕ) → v < l.i → stands_on (sure l.p.given (sets l.g) l.t) v l.n.0 ≡ false
