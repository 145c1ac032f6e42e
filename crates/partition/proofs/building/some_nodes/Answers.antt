use Rattle.base.proofs.Public.{◌==◌, length, refl, slice_get, slice_get_read}
use Rattle.partition.specs.Reach.{at}
use Rattle.partition.proofs.DealLemmas.{given_step}
use Rattle.partition.proofs.building.some_nodes.Goals as goal

pub loop-n-preserved : goal.loop-n-preserved
loop-n-preserved c =
    given_step (slice_get c.args.nodes.now) (λ n. at c.args.groups.now n == c.args.i) c.loop-n.n c.loop-n.kept.items _ c.index-nodes-n.result c.loop-n.invariant
    (slice_get_read c.args.nodes.now (length c.args.nodes.now) c.loop-n.n c.index-nodes-n.result refl c.loop-n-test.true c.index-nodes-n.is) c.in_ok-push_node.ensures
