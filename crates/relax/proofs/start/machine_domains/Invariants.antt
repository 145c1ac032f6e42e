use Rattle.relax.proofs.Prelude.{◌≡◌, ℕ, ◌<◌, length, slice_index_or, choices, start_sets, staying, vm}
use Rattle.relax.proofs.start.machine_domains.Given as goal

abbrev pub invariant-loop-v : goal.invariant-loop-v
invariant-loop-v l = record {
  count : length l.domains.items ≡ l.v;
  sets : (v : ℕ) → v < l.v → choices (slice_index_or l.domains.items v staying) ≡ start_sets l.p.given (vm v);
}
