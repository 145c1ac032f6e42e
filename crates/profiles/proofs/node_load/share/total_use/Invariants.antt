use Rattle.profiles.proofs.Prelude.{◌≡◌, ◌*◌, ◌≤◌, slice_index_or, no_share, no_standing, share_use, sum_to}
use Rattle.profiles.proofs.node_load.share.total_use.Given as goal

abbrev pub invariant-loop-i : goal.invariant-loop-i
invariant-loop-i l = record {
  total : l.total ≡ sum_to l.i (λ v. share_use l.n.0 l.t (slice_index_or l.shares v no_share) (slice_index_or l.standings v no_standing));
  small : l.total ≤ l.i * 2_000_000_000;
}
