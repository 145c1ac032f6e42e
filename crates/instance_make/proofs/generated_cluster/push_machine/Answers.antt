use Rattle.instance_make.proofs.Faultless.{machine_not_refused}
use Rattle.instance_make.proofs.generated_cluster.push_machine.Goals as goal

pub add_machine-requires : goal.add_machine-requires
add_machine-requires c = rw (c.requires.before, c.in_ok-machine.ensures) (machine_not_refused c.args.seed c.args.i c.requires.number)
