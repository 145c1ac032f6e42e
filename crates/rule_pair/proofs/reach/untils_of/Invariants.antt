use Rattle.rule_pair.proofs.Prelude.{length, slice_index_or, ℕ, ◌<◌, ◌≡◌, ◌≤◌}
use Rattle.rule_pair.specs.Prelude.{max_nodes, told_until}
use Rattle.rule_pair.proofs.reach.untils_of.Given as goal

abbrev pub invariant-loop-n : goal.invariant-loop-n
invariant-loop-n l = record {
  count : length l.until ≡ max_nodes;
  each : (k : ℕ) → k < l.n → told_until l.table l.part k ≤ slice_index_or l.until k 0;
}
