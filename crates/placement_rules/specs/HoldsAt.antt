-- When a constraint holds of a plan at an instant.
use Rattle.std.specs.Prelude.{ℕ, slice_get}
use Rattle.std.specs.Option.{ForSome}
use Rattle.slices.specs.Prelude.{Choices, Holds, Instance, snapshot_at}

-- the constraint of a number holds of what is where at an instant
abbrev pub HoldsAt : Instance → Choices → ℕ → ℕ → Type 0
HoldsAt p plan t c = ForSome (slice_get p.constraints c) (Holds p (snapshot_at p plan t))
