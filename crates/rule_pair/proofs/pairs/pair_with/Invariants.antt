use Rattle.rule_pair.proofs.Prelude.{ℕ, ◌<◌, IsPair, machine_count, seen, sure}
use Rattle.rule_pair.proofs.pairs.pair_with.Given as goal

abbrev pub invariant-loop-i : goal.invariant-loop-i
invariant-loop-i l = (n : ℕ) → n < l.i → (w : ℕ) → w < machine_count l.p.given → ¬ IsPair l.p.given (sure l.p.given (seen l.view.region.now l.view.lens) l.t) l.constraint l.v.0 w n
