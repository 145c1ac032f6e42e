use Rattle.rule_pair.specs.Prelude.{max_nodes}
use Rattle.rule_pair.proofs.LongestLemmas.{none_ordered}
use Rattle.rule_pair.proofs.suggest.suggest_parts.Goals as goal

pub tell_parts-requires-clause-ordered : goal.tell_parts-requires-clause-ordered
tell_parts-requires-clause-ordered c = none_ordered max_nodes
