use Rattle.base.proofs.Public.{◌≡◌, drop}
use Rattle.rule_script.specs.Elements.{machines_of}
use Rattle.rule_script.proofs.ElementLemmas.{after_these}
use Rattle.rule_script.proofs.elements.Elements.machines.Given as goal

abbrev pub invariant-loop-e : goal.invariant-loop-e
invariant-loop-e l = after_these l.found.items (machines_of (drop l.e-index l.e-items)) ≡ machines_of l.e-items
