use Rattle.rule_script.proofs.AddLemmas.{scripts_add}
use Rattle.rule_script.proofs.laws.scripts_add.Goals as goal

pub returns : goal.returns
returns c = scripts_add
