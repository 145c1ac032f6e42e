use Rattle.rule_pair.specs.Prelude.{max_nodes}
use Rattle.rule_pair.proofs.LongestLemmas.{none_ordered}
use Rattle.rule_pair.proofs.suggest.suggest_list.Goals as goal

pub tell_machines-requires-clause-ordered : goal.tell_machines-requires-clause-ordered
tell_machines-requires-clause-ordered c = none_ordered max_nodes
