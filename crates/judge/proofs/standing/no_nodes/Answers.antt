use Rattle.base.proofs.Public.{false, copies_at}
use Rattle.cluster.specs.Limits.{max_nodes}
use Rattle.judge.proofs.standing.no_nodes.Goals as goal

pub returns : goal.returns
returns c = λ n. copies_at max_nodes n false
