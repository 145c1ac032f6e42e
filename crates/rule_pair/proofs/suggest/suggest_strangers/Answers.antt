use Rattle.rule_pair.specs.Prelude.{max_nodes}
use Rattle.rule_pair.proofs.LongestLemmas.{none_ordered}
use Rattle.rule_pair.proofs.suggest.suggest_strangers.Goals as goal

pub tell_all-requires-clause-ordered : goal.tell_all-requires-clause-ordered
tell_all-requires-clause-ordered c = none_ordered max_nodes
