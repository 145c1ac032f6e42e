-- At most one value is the first broken one.
use Rattle.base.proofs.Public.{◌≡◌, ◌⊎◌, inl, inr, ℕ, ◌<◌, sym, ap, cases_order}
use Rattle.slices.specs.Prelude.{Choices, Constraint as OfConstraint, FirstIsOne, Instance, IsFirstRule, Load, NodeId, Precedes, Rule, Usable, VmId}

-- two pairs of numbers are the same, or one comes before the other
pairs_order : (a b r q : ℕ) → ((a ≡ b) × (r ≡ q)) ⊎ (((a < b) ⊎ ((a ≡ b) × (r < q))) ⊎ ((b < a) ⊎ ((b ≡ a) × (q < r))))
pairs_order a b r q =
    elim (cases_order a b) [
      | inl e ↦
          elim (cases_order r q) [
            | inl f ↦ inl (e, f)
            | inr o ↦ inr (elim o [ inl below ↦ inl (inr (e, below)) | inr above ↦ inr (inr (sym e, above)) ])
          ]
      | inr o ↦ inr (elim o [ inl below ↦ inl (inl below) | inr above ↦ inr (inl above) ])
    ]

same_node : (n m : NodeId) → n.0 ≡ m.0 → n ≡ m
same_node n m e = ap (λ (k : ℕ). let x : NodeId = record { 0 = k } in x) e

same_machine : (v w : VmId) → v.0 ≡ w.0 → v ≡ w
same_machine v w e = ap (λ (k : ℕ). let x : VmId = record { 0 = k } in x) e

same_load : (a b : NodeId) (r q : ℕ) → a.0 ≡ b.0 → r ≡ q → Load a r ≡ Load b q
same_load a b r q e f = let same = same_node a b e in cc

same_usable : (v w : VmId) (n m : NodeId) → v.0 ≡ w.0 → n.0 ≡ m.0 → Usable v n ≡ Usable w m
same_usable v w n m e f = let same_v = same_machine v w e in let same_n = same_node n m f in cc

-- of two rules one precedes the other, or they are the same
Precedes_cases : (r q : Rule) → (r ≡ q) ⊎ (Precedes r q ⊎ Precedes q r)
Precedes_cases (Load a r) (Load b q) = elim (pairs_order a.0 b.0 r q) [ inl e ↦ inl (same_load a b r q e.0 e.1) | inr o ↦ inr o ]
Precedes_cases (Load a r) (Usable w m) = inr (inl tt)
Precedes_cases (Load a r) (OfConstraint c) = inr (inl tt)
Precedes_cases (Usable v n) (Load b q) = inr (inr tt)
Precedes_cases (Usable v n) (Usable w m) = elim (pairs_order v.0 w.0 n.0 m.0) [ inl e ↦ inl (same_usable v w n m e.0 e.1) | inr o ↦ inr o ]
Precedes_cases (Usable v n) (OfConstraint c) = inr (inl tt)
Precedes_cases (OfConstraint c) (Load b q) = inr (inr tt)
Precedes_cases (OfConstraint c) (Usable w m) = inr (inr tt)
Precedes_cases (OfConstraint c) (OfConstraint d) = elim (cases_order c d) [ inl e ↦ inl (ap OfConstraint e) | inr o ↦ inr o ]

first_at : (p : Instance) (plan : Choices) (t : ℕ) (r q : Rule) → IsFirstRule p plan t r → IsFirstRule p plan t q → r ≡ q
first_at p plan t r q f g =
    elim (Precedes_cases r q) [
      | inl e ↦ e
      | inr o ↦ elim o [ inl below ↦ absurd (f.broken (g.first r f.in_range below)) | inr above ↦ absurd (g.broken (f.first q g.in_range above)) ]
    ]

pub first_is_one : FirstIsOne
first_is_one p plan a b f g =
    elim (cases_order a.at b.at) [
      | inl e ↦
          let same = first_at p plan b.at a.rule b.rule (rw e at f.rule) g.rule in
          λ i. record { at = e i; rule = same i }
      | inr o ↦
          elim o [
            | inl below ↦ absurd (f.rule.broken (g.earlier a.at below a.rule f.rule.in_range))
            | inr above ↦ absurd (g.rule.broken (f.earlier b.at above b.rule g.rule.in_range))
          ]
    ]
