use Rattle.rule_load.proofs.Prelude.{ℕ, ◌<◌, slice_index_or, sets}
use Rattle.rule_load.proofs.DoubtLemmas.{Fits}
use Rattle.rule_load.proofs.doubt.near_doubt.Given as goal

abbrev pub invariant-loop-i : goal.invariant-loop-i
invariant-loop-i l = (j u : ℕ) → j < l.i → Fits l.p.given (sets l.g) l.kept.standings.now l.r l.n.0 l.x l.spare (slice_index_or l.kept.near.now j u)
