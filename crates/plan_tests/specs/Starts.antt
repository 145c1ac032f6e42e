-- What the tests measure.
use Rattle.std.specs.Prelude.{ℕ}
use Rattle.cluster.specs.declared.choices.Choice.{Choice}
use Rattle.cluster.specs.declared.choices.Choice.TheVariants.{Idle, Act}

-- the start of a choice, and 0 for Idle
abbrev pub start_of : Choice → ℕ
start_of Idle = 0
start_of (Act place start) = start
