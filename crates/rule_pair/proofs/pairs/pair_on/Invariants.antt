use Rattle.rule_pair.proofs.Prelude.{ℕ, ◌<◌, IsPair, machine_count, node_count, seen, sure}
use Rattle.rule_pair.proofs.pairs.pair_on.Given as goal

abbrev pub invariant-loop-i : goal.invariant-loop-i
invariant-loop-i l = (v : ℕ) → v < l.i → (w n : ℕ) → w < machine_count l.p.given → n < node_count l.p.given → ¬ IsPair l.p.given (sure l.p.given (seen l.view.region.now l.view.lens) l.t) l.constraint v w n
