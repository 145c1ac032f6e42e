use Rattle.base.proofs.Public.{◌≡◌, length}
use Rattle.rule_script.specs.Grammar.{sets_at}
use Rattle.rule_script.proofs.ReadingLemmas.{after_these}
use Rattle.rule_script.proofs.reading.sets.Given as goal

abbrev pub invariant-sets : goal.invariant-sets
invariant-sets l = after_these l.found.items (sets_at l.rest) ≡ sets_at l.fn.rest

abbrev pub decreases-sets : goal.decreases-sets
decreases-sets l = length l.rest
