use Rattle.std.proofs.Common.{◌/◌}
use Rattle.cluster.specs.Prelude.{has_machine, IsBits-zero, max_machines}
use Rattle.cluster.proofs.BitLemmas.{has_bit-zero}
use Rattle.cluster.proofs.sets.MachineSet.new.Goals as goal

pub returns : goal.returns
unfolding has_machine
returns c = λ m. has_bit-zero (max_machines / 64) m

pub invariant_of-result : goal.invariant_of-result
invariant_of-result c = record { bits = IsBits-zero (max_machines / 64) }
