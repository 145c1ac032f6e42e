use Rattle.rule_script.proofs.ScriptLemmas.{call_good}
use Rattle.rule_script.proofs.script.make.Goals as goal

pub returns : goal.returns
returns c = call_good c.args.problem.now.given c.args.bindings c.args.call.now c.in_ok-constraint.constraint c.add.new.self.given c.in_ok-constraint.ensures c.in_ok-add.ensures.good c.in_ok-add.ensures.added
