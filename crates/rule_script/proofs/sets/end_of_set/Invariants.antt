use Rattle.base.proofs.Public.{◌≡◌, ◌-◌, length, drop}
use Rattle.rule_script.specs.Sets.{set_at}
use Rattle.rule_script.specs.SetSteps.{ends, rest_of}
use Rattle.rule_script.proofs.sets.end_of_set.Given as goal

abbrev pub invariant-tokens : goal.invariant-tokens
invariant-tokens l = ends l.now (drop l.at l.tokens) ≡ rest_of (set_at (drop l.fn.first l.tokens))

abbrev pub decreases-tokens : goal.decreases-tokens
decreases-tokens l = length l.tokens - l.at
