-- Helping only: a machine that only stays, beside another one that does and that the same machines are kept apart from.
use Rattle.std.specs.Prelude.{◌≡◌, ◌≢◌, ℕ, ◌<◌, [], ◌∷◌}
use Rattle.rule_constraint.specs.Prelude.{Instance, machine_count, Separates, Separation, Sets, state_of, vm}
use Rattle.cluster.specs.declared.choices.Choice.TheVariants.{Idle}

-- machine u is in the state of v, and both can only stay
pub record IsTwin (p : Instance) (s : Sets) (v u : ℕ) : Type 0 where
  pub machine : u < machine_count p
  pub other : u ≢ v
  pub first : s (vm v) ≡ Idle ∷ []
  pub second : s (vm u) ≡ Idle ∷ []
  pub same : state_of p u ≡ state_of p v

-- what is kept apart from v is kept apart from u, and is not u
pub record StandsFor (separation : Separation) (v u : ℕ) : Type 0 where
  pub first : (w : ℕ) → Separates separation v w → Separates separation u w × (u ≢ w)
  pub second : (w : ℕ) → Separates separation w v → Separates separation w u × (w ≢ u)

-- some machine is a twin that stands for v
abbrev pub HasTwin : Instance → Sets → Separation → ℕ → Type 0
HasTwin p s separation v = (u : ℕ) × IsTwin p s v u × StandsFor separation v u
