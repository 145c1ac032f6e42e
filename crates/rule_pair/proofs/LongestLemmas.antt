-- A table in which no stay is told.
use Rattle.rule_pair.proofs.Prelude.{ℕ, arith, replicate, copies_at, AreOrdered, nobody}

pub none_ordered : (n : ℕ) → AreOrdered (replicate n nobody)
none_ordered n = record { each = λ i. rw (copies_at n i nobody) (omega arith) }
