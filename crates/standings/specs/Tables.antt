-- The numbers of all machines, at the top and at each mark.
use Rattle.std.specs.Prelude.{◌≡◌, ℕ, ◌<◌, List, length, None, slice_index_or}
use Rattle.relax.specs.Prelude.{Instance, machine_count, Sets, vm}
use Rattle.standings.specs.{Levels.Levels, declared.numbers.Standing.Standing, Standings.IsStanding}

-- what a contract sees of a `Table`: the numbers of each level
abbrev pub Tables : Type 0
Tables = Levels Standing

-- ---- what numbers are right

abbrev pub no_standing : Standing
no_standing = record { leave = 0; come = None }

-- these are the numbers of the first machines
pub record AreStandingUpTo (p : Instance) (s : Sets) (many : ℕ) (ks : List Standing) : Type 0 where
  pub count : length ks ≡ many
  pub each : (v : ℕ) → v < many → IsStanding p v (s (vm v)) (slice_index_or ks v no_standing)

-- these are the numbers of all machines
abbrev pub AreStanding : Instance → Sets → List Standing → Type 0
AreStanding p s ks = AreStandingUpTo p s (machine_count p) ks
