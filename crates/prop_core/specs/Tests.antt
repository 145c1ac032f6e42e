-- For the tests alone: a propagator that keeps nothing, and covers all kinds or none.
use Rattle.std.specs.Prelude.{ℕ, Bool}
use Rattle.prop_core.specs.Propagators.{Meaning}

abbrev pub keeps_nothing : ℕ → ℕ → Bool → Meaning
keeps_nothing level given all = record { agrees = λ p k s. Unit {0}; level = level; given = given; covers = λ k. all }
