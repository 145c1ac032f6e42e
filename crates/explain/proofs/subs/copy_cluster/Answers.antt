use Rattle.explain.proofs.subs.copy_cluster.Goals as goal

pub cluster_with-requires : goal.cluster_with-requires
cluster_with-requires c = rw (c.in_ok-nodes.ensures, c.in_ok-machines.ensures, c.nodes.ensures.nodes, c.machines.ensures.machines) c.args.cluster.now.sound
