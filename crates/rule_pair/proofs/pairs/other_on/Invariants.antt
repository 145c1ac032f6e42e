use Rattle.rule_pair.proofs.Prelude.{ℕ, ◌<◌, IsPair, seen, sure}
use Rattle.rule_pair.proofs.pairs.other_on.Given as goal

abbrev pub invariant-loop-i : goal.invariant-loop-i
invariant-loop-i l = (w : ℕ) → w < l.i → ¬ IsPair l.p.given (sure l.p.given (seen l.view.region.now l.view.lens) l.t) l.constraint l.v.0 w l.n.0
