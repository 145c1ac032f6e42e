use Rattle.rule_script.proofs.LawLemmas.{sets_are_exact}
use Rattle.rule_script.proofs.laws.sets_are_exact.Goals as goal

pub returns : goal.returns
returns c = sets_are_exact
