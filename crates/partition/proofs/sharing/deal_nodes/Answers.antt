use Rattle.base.proofs.Public.{◌<◌, arith, get_or, length}
use Rattle.catalogue.specs.Prelude.{no_nodes}
use Rattle.partition.proofs.ShareLemmas.{node_dealt}
use Rattle.partition.proofs.sharing.deal_nodes.Goals as goal

pub loop-n-preserved : goal.loop-n-preserved
loop-n-preserved c = λ j l.
    let within : j < length c.loop-n.sets = omega arith in
    node_dealt c.args.groups.now c.args.numbers.now j c.args.set.now c.loop-n.n (get_or c.loop-n.sets j no_nodes) _ (c.loop-n.invariant j within) (c.put_node.ensures j within)
