use Rattle.base.proofs.Public.{◌≡◌, ◌+◌, ◌-◌}
use Rattle.rule_script.specs.Values.{numbered}
use Rattle.rule_script.proofs.PassLemmas.{after_these}
use Rattle.rule_script.proofs.pass.numbered.Given as goal

abbrev pub invariant-loop-step : goal.invariant-loop-step
invariant-loop-step l = (l.text.items ≡ l.name) × (after_these l.elements (numbered l.cluster.given l.name (l.first + l.step) (l.count - l.step)) ≡ numbered l.cluster.given l.name l.first l.count)
