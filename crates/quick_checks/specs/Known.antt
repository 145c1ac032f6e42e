-- Where machines are known to stand.
use Rattle.std.specs.Prelude.{ℕ, ◌<◌, List, length, slice_index_or}
use Rattle.standings.specs.Prelude.{Instance, IsStanding, machine_count, no_standing, Sets, vm}
use Rattle.standings.specs.declared.numbers.Standing.{Standing}

-- the numbers that are there are those of machines with these choices
pub record AreKnown (p : Instance) (s : Sets) (ks : List Standing) : Type 0 where
  pub each : (v : ℕ) → v < length ks → v < machine_count p → IsStanding p v (s (vm v)) (slice_index_or ks v no_standing)
