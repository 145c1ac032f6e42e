-- Problems with some of the constraints of another one.
use Rattle.std.specs.Prelude.{All, ◌≢◌, ℕ, ◌<◌, not, ◌==◌, List, length, filter, slice_get}
use Rattle.std.specs.List.Sorted.{IsStrictlyIncreasing}
use Rattle.std.specs.List.{filter_map, range_with_len}
use Rattle.std.specs.Option.{ForSome}
use Rattle.slices.specs.Prelude.{form_of, Instance, Settled}
use Rattle.catalogue.specs.declared.constraint.Constraint.{Constraint}

-- the constraints of these numbers, in the order of the numbers
abbrev pub picked : List Constraint → List ℕ → List Constraint
picked constraints kept = filter_map (slice_get constraints) kept

-- the problem with those constraints alone, numbered anew in order
unfoldable pub sub : Instance → List ℕ → Instance
sub p kept = record p { constraints = picked p.constraints kept }

-- the numbers of all constraints
abbrev pub all_numbers : Instance → List ℕ
all_numbers p = range_with_len 0 (length p.constraints)

-- the numbers without one of them
abbrev pub without : ℕ → List ℕ → List ℕ
without c kept = filter (λ x. not (x == c)) kept

-- numbers of constraints, in ascending order
pub record AreNumbers (p : Instance) (kept : List ℕ) : Type 0 where
  pub ascending : IsStrictlyIncreasing kept
  pub listed : All (λ c. c < length p.constraints) kept

-- the constraint of that number only asks something of what is where: it is no part of the demand, of the capacity or of the legal choices
abbrev pub IsUnsettled : Instance → ℕ → Type 0
IsUnsettled p c = ForSome (slice_get p.constraints c) (λ constraint. form_of constraint ≢ Settled)
