use Rattle.closing.proofs.Prelude.{◌≡◌, ℕ, ◌<◌, false, has_machine, IsFreeOf, sets, ShareNode}
use Rattle.closing.proofs.exact.pairs.stranger_found.Given as goal

abbrev pub invariant-loop-i : goal.invariant-loop-i
invariant-loop-i l = (w : ℕ) → w < l.i → has_machine l.members w ≡ false → IsFreeOf (ShareNode l.p.given l.v.0 w) l.p.given (sets l.g) l.t
