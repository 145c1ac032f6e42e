-- Where machines stand.
use Rattle.base.proofs.Public.{◌≡◌, inl, inr, ℕ, ◌+◌, ◌<◌, Bool, false, ◌&&◌, ◌||◌, nat_lt, cond, List, Option, Some, None, refl, sym, ◌∙◌, arith, both_ways, and_from, and_parts, cases_Bool, cases_eq, eqb-true, or_cases, true_from_ne_false, ◌↔◌, slice_index_or, IsTrue}
use Rattle.judge.specs.Prelude.{AreUsable, AreUsableNodes, Holding, image_in, Instance, is_in, is_where, IsFirstOff, IsHoldingOf, IsNodeWithin, node_count, NodeId, one, Snapshot, stands_on, StandsBelow, StandsUsably}
use Rattle.placement_rules.proofs.Public.{in_within}

-- a machine stands where what it holds is
pub stands_on-is_where : (p : Instance) (s : Snapshot) (v n : ℕ) (h : Holding) → IsHoldingOf p s v h → stands_on s v n ≡ is_where h n
stands_on-is_where p s v n h is = rw (is.present (one n), is.images (one n)) refl

none_above : (b : Bool) → b ≡ false → nat_lt 0 (cond b 1 0) ≡ false
none_above b e = rw e refl

image_within : (k n : ℕ) (o : Option NodeId) → IsNodeWithin k o → IsTrue (nat_lt 0 (image_in (one n) o)) → n < k
image_within k n None w h = absurd (both_ways false refl h)
image_within k n (Some x) w h =
    elim (cases_Bool (one n x.0)) [
      | inl here ↦ let e : x.0 ≡ n = eqb-true x.0 n here in omega (arith, e, w)
      | inr away ↦ absurd (both_ways (nat_lt 0 (image_in (one n) (Some x))) (none_above (one n x.0) away) h)
    ]

-- what is held is on nodes of the instance
where_within : (p : Instance) (s : Snapshot) (v n : ℕ) (h : Holding) → IsHoldingOf p s v h → IsTrue (is_where h n) → n < node_count p
where_within p s v n h is w =
    elim (or_cases (is_in (one n) h.source || is_in (one n) h.target) (nat_lt 0 (image_in (one n) h.image)) w) [
      | inl held ↦
          elim (or_cases (is_in (one n) h.source) (is_in (one n) h.target) held) [ inl x ↦ in_within (node_count p) n h.source is.source x | inr x ↦ in_within (node_count p) n h.target is.target x ]
      | inr image ↦ image_within (node_count p) n h.image is.image image
    ]

-- a machine stands on usable nodes alone where the table says so of what it holds
pub usable_where : (p : Instance) (s : Snapshot) (v : ℕ) (h : Holding) (table : List Bool) → IsHoldingOf p s v h → AreUsableNodes p s table → ((n : ℕ) → IsTrue (is_where h n) → IsTrue (slice_index_or table n false)) ↔ StandsUsably p s v
usable_where p s v h table is usable = (
  λ all n low x. sym (usable n low) ∙ all n (sym (stands_on-is_where p s v n h is) ∙ x),
  λ stands n x. let low = where_within p s v n h is x in usable n low ∙ stands n low (stands_on-is_where p s v n h is ∙ x),
)

-- one machine more
pub usable_more : (p : Instance) (s : Snapshot) (i : ℕ) (all here : Bool) → (IsTrue all ↔ AreUsable p s i) → (IsTrue here ↔ StandsUsably p s i) → IsTrue (all && here) ↔ AreUsable p s (i + 1)
usable_more p s i all here before now = (
  λ both v low.
      let parts = and_parts all here both in
      elim (cases_eq v i) [ inl e ↦ rw e (now.0 parts.1) | inr n ↦ before.0 parts.0 v (omega arith) ],
  λ usable. and_from all here (before.1 (λ v low. usable v (omega arith))) (now.1 (usable i (omega arith))),
)

-- ---- nodes that are not usable

module _ (p : Instance) (s : Snapshot) (v : ℕ) (h : Holding) (table : List Bool) (is : IsHoldingOf p s v h) (usable : AreUsableNodes p s table) where
  -- the first node where a machine stands that is not usable
  pub first_off : (n : ℕ) → n < node_count p → StandsBelow s v n → IsTrue (is_where h n) × (slice_index_or table n false ≡ false) → IsFirstOff p s v n
  first_off n low before off = record {
    in_range = low;
    stands = stands_on-is_where p s v n h is ∙ off.0;
    off = sym (usable n low) ∙ off.1;
    earlier = before;
  }

  -- one node more
  pub below_more : (n : ℕ) → n < node_count p → StandsBelow s v n → ¬ (IsTrue (is_where h n) × (slice_index_or table n false ≡ false)) → StandsBelow s v (n + 1)
  below_more n low before none m k x =
      elim (cases_eq m n) [
        | inl e ↦ true_from_ne_false (s.usable m) (λ off. none (sym (stands_on-is_where p s v n h is) ∙ rw e at x, usable n low ∙ rw e at off))
        | inr other ↦ before m (omega arith) x
      ]

-- one machine more
pub machines_more : (p : Instance) (s : Snapshot) (i : ℕ) → AreUsable p s i → StandsUsably p s i → AreUsable p s (i + 1)
machines_more p s i before here v low =
    elim (cases_eq v i) [ inl e ↦ rw e here | inr n ↦ before v (omega arith) ]
