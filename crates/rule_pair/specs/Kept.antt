-- Helping only: what is kept beside the rule: which constraints look at each element, and with levels where each machine surely stands, and
-- before when it is known not to start at nodes.
use Rattle.std.specs.Prelude.{◌≡◌, ◌≢◌, ℕ, ◌<◌, Bool, true, List, [], length, slice_index_or}
use Rattle.standings.specs.Prelude.{AreStanding, level_at, no_standing, Tables}
use Rattle.rule_constraint.specs.Prelude.{Instance, IsIndexOf, IsStanding, Lists, Sets, Standing, vm}
use Rattle.rule_frame.specs.Caches.{Cache}
use Rattle.machine_bounds.specs.Gone.{AreGone, GoneView}

-- these numbers, as far as there are any, are those of the first machines
pub record AreRight (p : Instance) (s : Sets) (ks : List Standing) : Type 0 where
  pub each : (v : ℕ) → v < length ks → IsStanding p v (s (vm v)) (slice_index_or ks v no_standing)

-- the lists are right for the instance, and what is kept of a level for the sets; where machines stand, only where it is wanted
pub record AreKept (p : Instance) (s : Sets) (lists : Lists) (m : Tables) (f : GoneView) (wanted : Bool) (k : ℕ) : Type 0 where
  pub index : IsIndexOf p (length p.constraints) lists
  pub standing : wanted ≡ true → AreStanding p s (level_at m k)
  pub gone : AreGone s f.bounds (level_at f.words k)
  pub same : length f.words.older ≡ length m.older

abbrev pub cache_of : Lists → Tables → GoneView → Bool → Cache
cache_of lists m f wanted = record { right = λ p k s. AreKept p s lists m f wanted k; level = length m.older }

-- machine v has a choice, and these are the numbers of its choices
pub record StandsIn (p : Instance) (s : Sets) (v : ℕ) (k : Standing) : Type 0 where
  pub some : s (vm v) ≢ []
  pub standing : IsStanding p v (s (vm v)) k
