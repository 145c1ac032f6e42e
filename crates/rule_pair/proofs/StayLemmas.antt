-- How long a machine stays that runs.
use Rattle.rule_pair.proofs.Prelude.{◌≡◌, ℕ, ◌≤◌, true, None, List, refl, arith, Choice, choices, DomainView, Instance, IsStanding, least, leave_of, Standing, StandsWithin}

-- one that may stay has not come elsewhere, and is not told too short how long it stays
pub idle_stands : (p : Instance) (v : ℕ) (d : DomainView) (k : Standing) → d.idle ≡ true → least (leave_of p v) (choices d) ≤ k.leave → k.come ≡ None → StandsWithin p v (choices d) k
idle_stands p v d k idle leave come = record { leave = leave; come = λ n t. rw (come, idle) refl }

pub stands_within : (p : Instance) (v : ℕ) (cs : List Choice) (k : Standing) → IsStanding p v cs k → StandsWithin p v cs k
stands_within p v cs k is = record { leave = rw is.leave (omega arith); come = is.come }
