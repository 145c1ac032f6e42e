-- What a valid plan keeps at an instant.
use Rattle.std.proofs.Common.{IsTrue, slice_get}
use Rattle.base.proofs.Public.{◌≡◌, ℕ, ◌≤◌, ◌||◌, ◌==◌, refl, subst, Option, Some, None, IsSomeAnd, slice_get_within}
use Rattle.reasons.specs.Prelude.{Applies, applies, Choices, Constraint as OfConstraint, form_of, Holds, InRange, Instance, is_continuous, IsInstance, IsSound, IsValid, Keeps, Rule, snapshot_of}
use Rattle.catalogue.specs.declared.constraint.Constraint.{Constraint}
use Rattle.slices.proofs.Public.{is_pointwise}
use Rattle.reasons.proofs.RuleLemmas.{sound_rule}

module _ (p : Instance) (sound : IsInstance p) (plan : Choices) (valid : IsValid p plan) (t : ℕ) (within : t ≤ p.horizon) where
  pub keeps-of : (r : Rule) → InRange p r → Keeps p (snapshot_of p plan t) (t == p.horizon) r
  unfolding IsValid
  keeps-of r i = subst (λ s. Keeps p s (t == p.horizon) r) (is_pointwise p plan t) (valid t within r i)

  pub holds-of : (c : ℕ) (k : Constraint) → slice_get p.constraints c ≡ Some k → IsTrue (is_continuous k || (t == p.horizon)) → Holds p (snapshot_of p plan t) k
  holds-of c k e a =
      let on : IsTrue (applies p (t == p.horizon) c) = rw e a in
      keeps-of (OfConstraint c) (slice_get_within p.constraints c k e) on k e

  -- no constraint that applies passes a test that none passes that holds
  pub none_applies : (P : Constraint → Type 0) (c : ℕ) → ((k : Constraint) → IsSound p (form_of k) → Holds p (snapshot_of p plan t) k → ¬ P k) → ¬ Applies p c t P
  none_applies P c none = at (slice_get p.constraints c) refl
    where
      at : (o : Option Constraint) → slice_get p.constraints c ≡ o → ¬ IsSomeAnd o (λ k. IsTrue (is_continuous k || (t == p.horizon)) × P k)
      at None e h = h
      at (Some k) e h = none k (sound_rule p sound c k e) (holds-of c k e h.0) h.1
