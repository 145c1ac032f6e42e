use Rattle.base.proofs.Public.{arith, common_steps}
use Rattle.catalogue.specs.Faults.{machines_in}
use Rattle.catalogue.proofs.TwiceLemmas.{small_numbers}
use Rattle.catalogue.proofs.faults.fault_of.Goals as goal

pub names_each_once-requires : goal.names_each_once-requires
names_each_once-requires c = small_numbers _ (machines_in c.args.constraint.now) c.args.cluster.now.sound.few_machines (grind (arith, common_steps))
