-- Helping only: what a machine is told of that has lost choices.
use Rattle.std.specs.Prelude.{ℕ, ◌≤◌, List, IsTrue}
use Rattle.rule_constraint.specs.Prelude.{Instance, one, present_at}
use Rattle.relax.specs.Prelude.{surely}
use Rattle.cluster.specs.declared.choices.Choice.{Choice}

-- wherever machine v surely is now up to the horizon, it surely was before it lost choices
pub record IsUnmoved (p : Instance) (v : ℕ) (old now : List Choice) : Type 0 where
  pub each : (n t : ℕ) → t ≤ p.horizon → IsTrue (surely (present_at p v (one n) t) now) → IsTrue (surely (present_at p v (one n) t) old)
