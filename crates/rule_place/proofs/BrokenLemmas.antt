-- Why a constraint is broken that the rule watches.
use Rattle.rule_place.proofs.Prelude.{◌≡◌, ℕ, true, slice_get, kept_applies}
use Rattle.rule_place.specs.Prelude.{Applies, Bound, broken_at, Constraint, Empty, forbidden_kinds, Group, Hall, HasPlace, Instance, IsBrokenBy, Load, Pair, Place, Power, ReasonKind, SetLoad, Snapshot, Usable, watch_at}

by : (p : Instance) (b : Snapshot) (k : Constraint) (kind : ReasonKind) → forbidden_kinds kind ≡ true → IsBrokenBy p b k kind → HasPlace p b k
by p b k Empty on x = cc
by p b k Bound on x = cc
by p b k Load on x = cc
by p b k Pair on x = cc
by p b k Place on x = x
by p b k Group on x = cc
by p b k SetLoad on x = cc
by p b k Power on x = cc
by p b k Usable on x = cc
by p b k Hall on x = cc

-- a machine is on a node where it lets the machine not be
pub place_broken : (p : Instance) (c t : ℕ) (b : Snapshot) → broken_at (watch_at forbidden_kinds p c) p t b → Applies p c t (HasPlace p b)
place_broken p c t b h = kept_applies forbidden_kinds p (slice_get p.constraints c) t b (HasPlace p b) (λ k kind is on x. by p b k kind on x) h
