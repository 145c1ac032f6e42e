-- Helping only: what breaks a constraint is of the kind that its form gives.
use Rattle.std.proofs.Common.{◌≡◌, inl, inr, ℕ, Some, refl, subst}
use Rattle.rule_constraint.specs.Words.{Allowed, Apart, Bounded, BreaksGroup, ExceedsAmount, ExceedsPower, Form, form_of, FormForbidsPair, FormForbidsPlace, Instance, InTurn, IsBroken, Ordered, Powered, Settled, Snapshot, Together, Constraint, ReasonKind, Empty, Bound, Load, Pair, Place, Group, SetLoad, Power, Usable, Hall}
use Rattle.rule_constraint.specs.Given.{IsBrokenBy, kind_of, reason_kind}

module _ (p : Instance) (s : Snapshot) where
  -- ---- by the form

  pair-kind : (f : Form) (v w : ℕ) → FormForbidsPair f v w → kind_of f ≡ Some Pair
  pair-kind (Apart separation) v w h = refl
  pair-kind (Allowed vs places) v w h = absurd h
  pair-kind (Together vs groups) v w h = absurd h
  pair-kind (Ordered before after) v w h = absurd h
  pair-kind (InTurn vs) v w h = absurd h
  pair-kind (Bounded weight ns amount) v w h = absurd h
  pair-kind (Powered ns amount) v w h = absurd h
  pair-kind Settled v w h = absurd h

  place-kind : (f : Form) (v n : ℕ) → FormForbidsPlace p f v n → kind_of f ≡ Some Place
  place-kind (Apart separation) v n h = absurd h
  place-kind (Allowed vs places) v n h = refl
  place-kind (Together vs groups) v n h = absurd h
  place-kind (Ordered before after) v n h = absurd h
  place-kind (InTurn vs) v n h = absurd h
  place-kind (Bounded weight ns amount) v n h = absurd h
  place-kind (Powered ns amount) v n h = absurd h
  place-kind Settled v n h = absurd h

  group-kind : (f : Form) → BreaksGroup p s f → kind_of f ≡ Some Group
  group-kind (Apart separation) h = absurd h
  group-kind (Allowed vs places) h = absurd h
  group-kind (Together vs groups) h = refl
  group-kind (Ordered before after) h = refl
  group-kind (InTurn vs) h = refl
  group-kind (Bounded weight ns amount) h = absurd h
  group-kind (Powered ns amount) h = absurd h
  group-kind Settled h = absurd h

  amount-kind : (f : Form) → ExceedsAmount p s f → kind_of f ≡ Some SetLoad
  amount-kind (Apart separation) h = absurd h
  amount-kind (Allowed vs places) h = absurd h
  amount-kind (Together vs groups) h = absurd h
  amount-kind (Ordered before after) h = absurd h
  amount-kind (InTurn vs) h = absurd h
  amount-kind (Bounded weight ns amount) h = refl
  amount-kind (Powered ns amount) h = absurd h
  amount-kind Settled h = absurd h

  power-kind : (f : Form) → ExceedsPower p s f → kind_of f ≡ Some Power
  power-kind (Apart separation) h = absurd h
  power-kind (Allowed vs places) h = absurd h
  power-kind (Together vs groups) h = absurd h
  power-kind (Ordered before after) h = absurd h
  power-kind (InTurn vs) h = absurd h
  power-kind (Bounded weight ns amount) h = absurd h
  power-kind (Powered ns amount) h = refl
  power-kind Settled h = absurd h

  -- ---- by the kind

  -- what breaks a constraint by a kind of reasons is of its kind, and breaks it
  pub by_kind : (kind : ReasonKind) (k : Constraint) → IsBrokenBy p s k kind → reason_kind k ≡ Some kind
  by_kind Empty k h = absurd h
  by_kind Bound k h = absurd h
  by_kind Load k h = absurd h
  by_kind Pair k h = pair-kind (form_of k) h.0 h.1 h.6.forbidden
  by_kind Place k h = place-kind (form_of k) h.0 h.1 h.4.forbidden
  by_kind Group k h = group-kind (form_of k) h
  by_kind SetLoad k h = amount-kind (form_of k) h
  by_kind Power k h = power-kind (form_of k) h
  by_kind Usable k h = absurd h
  by_kind Hall k h = absurd h

  pub breaks : (kind : ReasonKind) (k : Constraint) → IsBrokenBy p s k kind → IsBroken p s k
  breaks Empty k h = absurd h
  breaks Bound k h = absurd h
  breaks Load k h = absurd h
  breaks Pair k h = inl h
  breaks Place k h = inr (inl h)
  breaks Group k h = inr (inr (inl h))
  breaks SetLoad k h = inr (inr (inr (inl h)))
  breaks Power k h = inr (inr (inr (inr h)))
  breaks Usable k h = absurd h
  breaks Hall k h = absurd h

  -- a constraint that is broken is so by its kind
  pub broken_by : (k : Constraint) → IsBroken p s k → (kind : ReasonKind) × (reason_kind k ≡ Some kind) × IsBrokenBy p s k kind
  broken_by k (inl h) = (Pair, by_kind Pair k h, h)
  broken_by k (inr (inl h)) = (Place, by_kind Place k h, h)
  broken_by k (inr (inr (inl h))) = (Group, by_kind Group k h, h)
  broken_by k (inr (inr (inr (inl h)))) = (SetLoad, by_kind SetLoad k h, h)
  broken_by k (inr (inr (inr (inr h)))) = (Power, by_kind Power k h, h)

  pub of_kind : (kind : ReasonKind) (k : Constraint) → reason_kind k ≡ Some kind → IsBroken p s k → IsBrokenBy p s k kind
  of_kind kind k is h = let x = broken_by k h in let same : x.0 ≡ kind = by x.1 in subst (IsBrokenBy p s k) same x.2
    where
      by : {other : ReasonKind} → reason_kind k ≡ Some other → other ≡ kind
      by also = cc
