-- Helping only: nodes that shut down after what is there has left.
use Rattle.std.specs.Prelude.{◌≡◌, ◌⊎◌, ℕ, ◌<◌, ◌≤◌, true, false}
use Rattle.rule_place.specs.Words.{goes_in, hosted_in, Instance, IsEnd, leave_of, node, one, Sets, stands_on, StandsUnder, state_of, sure, usable_at, vm, Choice}
use Rattle.rule_place.specs.declared.shutdowns.Shutdown.{Shutdown}

-- node n is usable under each end of its choices before the first start, and may be usable before the last
pub record IsShutdown (p : Instance) (s : Sets) (n : ℕ) (x : Shutdown) : Type 0 where
  pub order : x.first ≤ x.last
  pub ends : (c : Choice) (t : ℕ) → IsEnd (s (node n)) c → t < x.first → usable_at p n t c ≡ true
  pub may : (t : ℕ) → t < x.last → (sure p s t).usable n ≡ true

-- the choice goes elsewhere than to node n, and if that is the machine's host, it has left it by an instant
abbrev pub IsAway : Instance → ℕ → ℕ → ℕ → Choice → Type 0
IsAway p v n end c = (goes_in c (one n) ≡ false) × ((hosted_in (state_of p v) (one n) ≡ false) ⊎ (leave_of p v c ≤ end))

-- up to the horizon a machine surely is not there from the first start on, and under no end of its choices from the last on
pub record LetsGo (p : Instance) (s : Sets) (v n : ℕ) (x : Shutdown) : Type 0 where
  pub surely : (t : ℕ) → t ≤ p.horizon → x.first ≤ t → stands_on (sure p s t) v n ≡ false
  pub ends : (c : Choice) (t : ℕ) → IsEnd (s (vm v)) c → t ≤ p.horizon → x.last ≤ t → ¬ StandsUnder p v n t c
