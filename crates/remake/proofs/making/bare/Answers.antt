use Rattle.remake.proofs.AddLemmas.{base_not_refused}
use Rattle.remake.proofs.making.bare.Goals as goal

pub new_cluster-requires : goal.new_cluster-requires
new_cluster-requires c = rw (c.in_ok-copy_names.ensures, c.resources.ensures.resources, c.durations.ensures.durations) (base_not_refused c.args.of.now.given c.args.of.now.sound)
