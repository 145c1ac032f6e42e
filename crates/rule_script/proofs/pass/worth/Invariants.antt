use Rattle.base.proofs.Public.{◌≡◌, [], drop}
use Rattle.rule_script.specs.Pass.{run}
use Rattle.rule_script.specs.declared.pass.Due.TheVariants.{Term}
use Rattle.rule_script.specs.declared.pass.Waiting.TheVariants.{Nothing}
use Rattle.rule_script.proofs.pass.worth.Given as goal

abbrev pub invariant-loop-token : goal.invariant-loop-token
invariant-loop-token l = run l.cluster.given l.bindings l.due l.brackets (drop l.token-index l.tokens) ≡ run l.cluster.given l.bindings (Term Nothing) [] l.tokens
