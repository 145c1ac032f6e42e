-- Why a constraint is broken that the rule watches.
use Rattle.rule_setload.proofs.Prelude.{◌≡◌, ℕ, true, Option, Some, subst, slice_get, Applies, broken_at, Constraint, Instance, IsBrokenBy, IsPower, IsSetLoad, passes, Power, reason_kind, ReasonKind, set_kinds, SetLoad, Snapshot, watch_at, kept_applies}

-- the constraint gives reasons of a kind that the rule covers, and is broken by what they say
abbrev IsKnown : Instance → Snapshot → Constraint → Type 0
IsKnown p b k = (kind : ReasonKind) × (reason_kind k ≡ Some kind) × (set_kinds kind ≡ true) × IsBrokenBy p b k kind

known : (p : Instance) (c t : ℕ) (b : Snapshot) → broken_at (watch_at set_kinds p c) p t b → Applies p c t (IsKnown p b)
known p c t b h = kept_applies set_kinds p (slice_get p.constraints c) t b (IsKnown p b) (λ k kind is on x. (kind, is, on, x)) h

of-known : (p : Instance) (b : Snapshot) (k : Constraint) (kind : ReasonKind) → reason_kind k ≡ Some kind → IsKnown p b k → IsBrokenBy p b k kind
of-known p b k kind is x = let same : x.0 ≡ kind = by x.1 in subst (IsBrokenBy p b k) same x.3
  where
    by : {other : ReasonKind} → reason_kind k ≡ Some other → other ≡ kind
    by also = cc

module _ (p : Instance) (c t : ℕ) (b : Snapshot) (k : Constraint) (is : slice_get p.constraints c ≡ Some k) (h : broken_at (watch_at set_kinds p c) p t b) where
  pub load_broken : reason_kind k ≡ Some SetLoad → Applies p c t (IsSetLoad p b)
  load_broken kind = rw is (let x = rw is at (known p c t b h) in (x.0, of-known p b k SetLoad kind x.1))

  pub power_broken : reason_kind k ≡ Some Power → Applies p c t (IsPower p b)
  power_broken kind = rw is (let x = rw is at (known p c t b h) in (x.0, of-known p b k Power kind x.1))

  -- it is of one of the two kinds
  pub is_amount : (o : Option ReasonKind) → reason_kind k ≡ o → passes set_kinds o ≡ true
  is_amount o kind = let x = rw is at (known p c t b h) in rw (← kind, x.1.1) x.1.2
