use Rattle.load_bounds.proofs.Prelude.{ℕ, ◌<◌, ◌≤◌, length, slice_index_or, sets}
use Rattle.load_bounds.proofs.OrderLemmas.{Fits}
use Rattle.profiles.specs.declared.fixed.MostUse.{MostUse}
use Rattle.load_bounds.proofs.total_fit.machines_fit.Given as goal

abbrev pub invariant-machines : goal.invariant-machines
invariant-machines l = record {
  most : l.k ≤ length l.order;
  late : (j : ℕ) (u : MostUse) → l.k ≤ j → j < length l.order → Fits l.p.given (sets l.g) l.ks l.r l.x l.spare (slice_index_or l.order j u).machine.0;
}

abbrev pub decreases-machines : goal.decreases-machines
decreases-machines l = l.k
