use Rattle.rule_load.proofs.Prelude.{ℕ, ◌<◌, ◌≤◌, length, slice_index_or, MostUse, sets}
use Rattle.rule_load.proofs.DoubtLemmas.{FitsAfar}
use Rattle.rule_load.proofs.doubt.machine_doubt.Given as goal

abbrev pub invariant-machines : goal.invariant-machines
invariant-machines l = record {
  most : l.k ≤ length l.order;
  late : (j : ℕ) (u : MostUse) → l.k ≤ j → j < length l.order → FitsAfar l.p.given (sets l.g) l.kept.standings.now l.r l.n.0 l.x l.spare l.kept.near.now (slice_index_or l.order j u).machine.0;
}

abbrev pub decreases-machines : goal.decreases-machines
decreases-machines l = l.k
