use Rattle.base.proofs.Public.{◌≡◌, ℕ, ◌<◌, fold, get_or, length, range_with_len}
use Rattle.catalogue.specs.Prelude.{no_nodes}
use Rattle.partition.specs.Cutting.{cut_node}
use Rattle.partition.proofs.sharing.deal_nodes.Given as goal

abbrev pub invariant-loop-n : goal.invariant-loop-n
invariant-loop-n l = (j : ℕ) → j < length l.sets → get_or l.sets j no_nodes ≡ fold (cut_node l.groups l.numbers j l.set) no_nodes (range_with_len 0 l.n)
