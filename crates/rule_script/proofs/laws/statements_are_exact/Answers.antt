use Rattle.rule_script.proofs.StatementLemmas.{statements_are_exact}
use Rattle.rule_script.proofs.laws.statements_are_exact.Goals as goal

pub returns : goal.returns
returns c = statements_are_exact
