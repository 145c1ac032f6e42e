use Rattle.base.proofs.Public.{◌≡◌, drop}
use Rattle.rule_script.specs.Calls.{groups_in}
use Rattle.rule_script.proofs.CallLemmas.{after_these}
use Rattle.rule_script.proofs.calls.Scope.groups.Given as goal

abbrev pub invariant-loop-set : goal.invariant-loop-set
invariant-loop-set l = after_these l.groups.items (groups_in l.self.cluster.now.given l.self.bindings (drop l.set-index l.list)) ≡ groups_in l.self.cluster.now.given l.self.bindings l.list
