use Rattle.std.proofs.Common.{◌/◌, refl}
use Rattle.cluster.specs.Prelude.{has_node, IsBits-zero, max_nodes, no_nodes}
use Rattle.cluster.proofs.BitLemmas.{has_bit-zero}
use Rattle.cluster.proofs.SetLemmas.{same_set_of_words}
use Rattle.cluster.proofs.sets.NodeSet.new.Goals as goal

pub returns : goal.returns
unfolding has_node no_nodes
returns c = record { set = same_set_of_words _ no_nodes refl; nodes = λ m. has_bit-zero (max_nodes / 64) m }

pub invariant_of-result : goal.invariant_of-result
invariant_of-result c = record { bits = IsBits-zero (max_nodes / 64) }
