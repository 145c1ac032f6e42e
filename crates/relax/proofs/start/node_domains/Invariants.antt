use Rattle.relax.proofs.Prelude.{◌≡◌, ℕ, ◌<◌, length, slice_index_or, choices, node, start_sets, staying}
use Rattle.relax.proofs.start.node_domains.Given as goal

abbrev pub invariant-loop-n : goal.invariant-loop-n
invariant-loop-n l = record {
  count : length l.domains.items ≡ l.n;
  sets : (n : ℕ) → n < l.n → choices (slice_index_or l.domains.items n staying) ≡ start_sets l.p.given (node n);
}
