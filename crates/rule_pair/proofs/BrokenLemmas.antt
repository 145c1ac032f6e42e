-- Why a constraint is broken that the rule watches.
use Rattle.rule_pair.proofs.Prelude.{◌≡◌, ℕ, true, slice_get, Applies, Bound, broken_at, Constraint, Empty, Group, Hall, HasPair, Instance, IsBrokenBy, Load, Pair, pair_kinds, Place, Power, ReasonKind, SetLoad, Snapshot, Usable, watch_at, kept_applies}

by : (p : Instance) (b : Snapshot) (k : Constraint) (kind : ReasonKind) → pair_kinds kind ≡ true → IsBrokenBy p b k kind → HasPair p b k
by p b k Empty on x = cc
by p b k Bound on x = cc
by p b k Load on x = cc
by p b k Pair on x = x
by p b k Place on x = cc
by p b k Group on x = cc
by p b k SetLoad on x = cc
by p b k Power on x = cc
by p b k Usable on x = cc
by p b k Hall on x = cc

-- two machines are on a node that it keeps apart
pub pair_broken : (p : Instance) (c t : ℕ) (b : Snapshot) → broken_at (watch_at pair_kinds p c) p t b → Applies p c t (HasPair p b)
pair_broken p c t b h = kept_applies pair_kinds p (slice_get p.constraints c) t b (HasPair p b) (λ k kind is on x. by p b k kind on x) h
