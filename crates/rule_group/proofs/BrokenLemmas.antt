-- Why a constraint is broken that the rule watches.
use Rattle.base.proofs.Public.{◌≡◌, ℕ, true, slice_get}
use Rattle.rule_group.specs.Prelude.{Applies, Bound, broken_at, Constraint, Empty, Group, group_kinds, Hall, Instance, IsBrokenBy, IsGroup, Load, Pair, Place, Power, ReasonKind, SetLoad, Snapshot, Usable, watch_at}
use Rattle.rule_constraint.proofs.Public.{kept_applies}

by : (p : Instance) (b : Snapshot) (k : Constraint) (kind : ReasonKind) → group_kinds kind ≡ true → IsBrokenBy p b k kind → IsGroup p b k
by p b k Empty on x = cc
by p b k Bound on x = cc
by p b k Load on x = cc
by p b k Pair on x = cc
by p b k Place on x = cc
by p b k Group on x = x
by p b k SetLoad on x = cc
by p b k Power on x = cc
by p b k Usable on x = cc
by p b k Hall on x = cc

-- the whole group does not keep it
pub group_broken : (p : Instance) (c t : ℕ) (b : Snapshot) → broken_at (watch_at group_kinds p c) p t b → Applies p c t (IsGroup p b)
group_broken p c t b h = kept_applies group_kinds p (slice_get p.constraints c) t b (IsGroup p b) (λ k kind is on x. by p b k kind on x) h
