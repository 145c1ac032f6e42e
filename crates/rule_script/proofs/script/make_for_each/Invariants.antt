use Rattle.base.proofs.Public.{◌≡◌, drop}
use Rattle.rule_script.specs.Script.{called_for_each}
use Rattle.rule_script.proofs.script.make_for_each.Given as goal

abbrev pub invariant-loop-element : goal.invariant-loop-element
invariant-loop-element l = called_for_each l.problem.given l.variables l.name l.call (drop l.element-index l.list) ≡ called_for_each l.fn.problem.given l.variables l.name l.call l.list
