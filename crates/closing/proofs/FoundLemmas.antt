-- What a look says of a condition, it says of others too.
use Rattle.closing.proofs.Prelude.{ℕ, Clean, Cut, Fail, Instance, IsFound, IsFreeOf, Look, Sets, Snapshot}

-- what is met only where something is that is never met is never met
pub freed : (met other : Snapshot → Type 0) (p : Instance) (s : Sets) (t : ℕ) → ((b : Snapshot) → met b → other b) → IsFreeOf other p s t → IsFreeOf met p s t
freed met other p s t to free = record { base = λ x. free.base (to _ x); ends = λ e c there end x. free.ends e c there end (to _ x) }

pub never_met : (met : Snapshot → Type 0) (p : Instance) (s : Sets) (t : ℕ) → ((b : Snapshot) → ¬ met b) → IsFreeOf met p s t
never_met met p s t never = record { base = never _; ends = λ e c i end. never _ }

-- a look at a condition is one at each other that is met where it is
pub found_same : (met other : Snapshot → Type 0) (p : Instance) (s : Sets) (t : ℕ) (look : Look) → ((b : Snapshot) → met b → other b) → ((b : Snapshot) → other b → met b) → IsFound met p s t look → IsFound other p s t look
found_same met other p s t Clean to from h = freed other met p s t from h
found_same met other p s t (Fail u) to from h = (h.0, to _ h.1)
found_same met other p s t (Cut e c u) to from h = (h.0, record { element = h.1.element; is_end = h.1.is_end; is_met = to _ h.1.is_met })
