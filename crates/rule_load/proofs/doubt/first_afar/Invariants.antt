use Rattle.rule_load.proofs.Prelude.{ℕ, ◌<◌, ◌≤◌, Contains, slice_index_or}
use Rattle.rule_load.proofs.doubt.first_afar.Given as goal

abbrev pub invariant-loop-v : goal.invariant-loop-v
invariant-loop-v l = (w : ℕ) → w < l.v → ¬ Contains l.kept.near.now w → l.first ≤ slice_index_or l.kept.firsts.now w 0
