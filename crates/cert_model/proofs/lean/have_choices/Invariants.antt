use Rattle.cert_model.proofs.Prelude.{◌≢◌, ℕ, ◌<◌, [], machine_count, node, sets, vm}
use Rattle.cert_model.proofs.lean.have_choices.Given as goal

abbrev pub invariant-loop-v : goal.invariant-loop-v
invariant-loop-v l = (v : ℕ) → v < l.v → sets l.g (vm v) ≢ []

abbrev pub invariant-loop-n : goal.invariant-loop-n
invariant-loop-n l = record { machines : (v : ℕ) → v < machine_count l.p.given → sets l.g (vm v) ≢ []; nodes : (n : ℕ) → n < l.n → sets l.g (node n) ≢ [] }
