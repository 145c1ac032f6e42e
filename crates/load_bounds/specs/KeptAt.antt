-- What is kept beside a region, as far as node n needs it.
use Rattle.std.specs.Prelude.{◌≡◌, ℕ, ◌<◌, true, List}
use Rattle.std.specs.List.{Contains}
use Rattle.load_bounds.specs.Words.{AreFirstAt, AreMachines, AreStanding, FixedView, have_come, hosted_in, Instance, IsFixed, machine_count, one, Sets, state_of, vm, Standing}

-- each machine that it hosts, or of which all choices have come there, is in the list, once
pub record AreNearAt (p : Instance) (s : Sets) (n : ℕ) (xs : List ℕ) : Type 0 where
  pub machines : AreMachines p xs
  pub hosted : (v : ℕ) → v < machine_count p → hosted_in (state_of p v) (one n) ≡ true → Contains xs v
  pub come : (v t : ℕ) → v < machine_count p → have_come n t (s (vm v)) ≡ true → Contains xs v

pub record AreKeptAt (p : Instance) (s : Sets) (n : ℕ) (x : FixedView) (ks : List Standing) (xs fs : List ℕ) : Type 0 where
  pub fixed : IsFixed p x
  pub standing : AreStanding p s ks
  pub near : AreNearAt p s n xs
  pub firsts : AreFirstAt p s n fs
