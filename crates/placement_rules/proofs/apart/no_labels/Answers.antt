use Rattle.placement_rules.proofs.Prelude.{None, copies_at, max_nodes}
use Rattle.placement_rules.proofs.apart.no_labels.Goals as goal

pub returns : goal.returns
returns c = λ n. copies_at max_nodes n None
