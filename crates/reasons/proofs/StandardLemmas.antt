-- Sets are unrefuted where no standard reason refutes them: each reason that is there is one of the snapshot, and the other way round.
use mathlib.Core.Path.{fun_ext}
use Rattle.std.proofs.Common.{IsTrue, slice_get}
use Rattle.std.proofs.lemmas.Bool.{true≢false}
use Rattle.base.proofs.Public.{◌≡◌, inl, inr, ℕ, zero, suc, ◌<◌, ◌≤◌, false, ◌||◌, ◌==◌, nat_lt, Option, Some, None, refl, sym, subst, ◌∙◌, arith, IsSomeAnd, cases_lt, eq-eqb, lt-ltb, nat_tests, slice_get_within, or-false}
use Rattle.reasons.specs.Prelude.{all_nodes, Applies, AreListed, Bound as BoundKind, Empty as EmptyKind, Group as GroupKind, Hall as HallKind, has_node, Instance, is_continuous, IsFree, IsGroup, IsInstance, IsOverload, IsPair, IsPlace, IsPower, IsSetLoad, IsSetOf, IsStandard, IsUnrefuted, Load as LoadKind, max_nodes, no_nodes, node_count, Nodes, NodeSet, NoneBroken, one, Pair as PairKind, Place as PlaceKind, Power as PowerKind, Reason, ReasonKind, Refutes, SetLoad as SetLoadKind, Sets, sure, UnrefutedByReasons, Usable as UsableKind, with_node}
use Rattle.catalogue.specs.declared.constraint.Constraint.{Constraint}
use Rattle.reasons.specs.declared.reason.Reason.TheVariants.{Empty, Bound, Load, Pair, Place, Group, SetLoad, Power, Usable, Hall}
use Rattle.cluster.proofs.Public.{has_node-no_nodes, has_node-with_node}

-- ---- sets of one node, and of the first so many

single : ℕ → NodeSet
single n = with_node no_nodes n

has-single : (n : ℕ) → n < max_nodes → IsSetOf (single n) (one n)
unfolding single
has-single n l m = has_node-with_node no_nodes n m l ∙ rw (has_node-no_nodes m) (or-false (m == n))

up_to : ℕ → NodeSet
up_to zero = no_nodes
up_to (suc k) = with_node (up_to k) k

has-up_to : (k : ℕ) → k ≤ max_nodes → IsSetOf (up_to k) (λ m. nat_lt m k)
unfolding up_to
has-up_to zero l m = has_node-no_nodes m ∙ none m
  where
    none : (m : ℕ) → false ≡ nat_lt m 0
    none m = grind (arith, nat_tests)
has-up_to (suc k) l m = has_node-with_node (up_to k) k m (omega arith) ∙ rw (has-up_to k (omega arith) m) (more m k)
  where
    more : (m k : ℕ) → ((m == k) || nat_lt m k) ≡ nat_lt m (suc k)
    more m k = grind (arith, nat_tests)

single-listed : (p : Instance) (set : NodeSet) (n : ℕ) → n < node_count p → IsSetOf set (one n) → AreListed p set
single-listed p set n l is = record {
  within = λ m past. is m ∙ other m past;
  some = λ h. (n, is n ∙ eq-eqb n n refl);
}
  where
    other : (m : ℕ) → node_count p ≤ m → (m == n) ≡ false
    other m past = grind (arith, nat_tests)

all-listed : (p : Instance) (set : NodeSet) → IsSetOf set (all_nodes p) → AreListed p set
all-listed p set is = record {
  within = λ m past. is m ∙ other m past;
  some = λ h. (0, is 0 ∙ lt-ltb 0 (node_count p) h);
}
  where
    other : (m : ℕ) → node_count p ≤ m → nat_lt m (node_count p) ≡ false
    other m past = grind (arith, nat_tests)

-- a load on a set of nodes is one on the nodes that it has
as-set : (p : Instance) (s : Sets) (t r : ℕ) (set : NodeSet) (nodes : Nodes) → IsSetOf set nodes → IsOverload p (sure p s t) r nodes → IsOverload p (sure p s t) r (has_node set)
as-set p s t r set nodes is over = subst (IsOverload p (sure p s t) r) (sym (fun_ext is)) over

as-nodes : (p : Instance) (s : Sets) (t r : ℕ) (set : NodeSet) (nodes : Nodes) → IsSetOf set nodes → IsOverload p (sure p s t) r (has_node set) → IsOverload p (sure p s t) r nodes
as-nodes p s t r set nodes is over = subst (IsOverload p (sure p s t) r) (fun_ext is) over

-- ---- of a constraint

applies-from : (p : Instance) (c t : ℕ) (k : Constraint) (P : Constraint → Type 0) → slice_get p.constraints c ≡ Some k → IsTrue (is_continuous k || (t == p.horizon)) → P k → Applies p c t P
applies-from p c t k P e a x = rw e (a, x)

none-broken : (p : Instance) (c t : ℕ) (P Q : Constraint → Type 0) → NoneBroken p (t == p.horizon) Q → ((k : Constraint) → P k → Q k) → ¬ Applies p c t P
none-broken p c t P Q none f = at (slice_get p.constraints c) refl
  where
    at : (o : Option Constraint) → slice_get p.constraints c ≡ o → ¬ IsSomeAnd o (λ k. IsTrue (is_continuous k || (t == p.horizon)) × P k)
    at None e h = h
    at (Some k) e h = none c k e h.0 (f k h.1)

-- ---- both directions

unrefuted-none : (p : Instance) (bound : Option ℕ) (s : Sets) → IsUnrefuted p s → (reason : Reason) → IsStandard p reason → ¬ Refutes p bound s reason
unfolding IsUnrefuted
unrefuted-none p bound s free (Empty e) standard x = standard
unrefuted-none p bound s free Bound standard x = standard
unrefuted-none p bound s free (Load t r set) (inl all) x =
    (free LoadKind t x.named.0 r x.named.1).all (as-nodes p s t r set (all_nodes p) all x.says)
unrefuted-none p bound s free (Load t r set) (inr (n, is)) x =
    elim (cases_lt n (node_count p)) [
      | inl there ↦ (free LoadKind t x.named.0 r x.named.1).each n there (as-nodes p s t r set (one n) is x.says)
      | inr past ↦ true≢false (sym (is n ∙ eq-eqb n n refl) ∙ x.named.2.within n past)
    ]
unrefuted-none p bound s free (Pair c t v w n) standard x =
    none-broken p c t _ _ (free PairKind t x.named.1) (λ k h. (v.0, w.0, n.0, x.named.2, x.named.3, x.named.4, h)) x.says
unrefuted-none p bound s free (Place c t v n) standard x =
    none-broken p c t _ _ (free PlaceKind t x.named.1) (λ k h. (v.0, n.0, x.named.2, x.named.3, h)) x.says
unrefuted-none p bound s free (Group c t) standard x =
    none-broken p c t (IsGroup p (sure p s t)) (IsGroup p (sure p s t)) (free GroupKind t x.named.1) (λ k h. h) x.says
unrefuted-none p bound s free (SetLoad c t) standard x =
    none-broken p c t (IsSetLoad p (sure p s t)) (IsSetLoad p (sure p s t)) (free SetLoadKind t x.named.1) (λ k h. h) x.says
unrefuted-none p bound s free (Power c t) standard x =
    none-broken p c t (IsPower p (sure p s t)) (IsPower p (sure p s t)) (free PowerKind t x.named.1) (λ k h. h) x.says
unrefuted-none p bound s free (Usable t v n) standard x = free UsableKind t x.named.0 v.0 n.0 x.named.1 x.named.2 x.says
unrefuted-none p bound s free (Hall c t set) standard x = standard

module _ (p : Instance) (sound : IsInstance p) (bound : Option ℕ) (s : Sets) (none : (reason : Reason) → IsStandard p reason → ¬ Refutes p bound s reason) where
  few : node_count p ≤ max_nodes
  few = sound.inventory.few_nodes

  none-unrefuted : (kind : ReasonKind) (t : ℕ) → t ≤ p.horizon → IsFree p (sure p s t) (t == p.horizon) kind
  none-unrefuted EmptyKind t l = tt
  none-unrefuted BoundKind t l = tt
  none-unrefuted LoadKind t l =
      λ r i. record {
        each = λ n h over.
            let is = has-single n (omega (arith, h, few)) in
            none (Load t r (single n)) (inr (n, is)) (record { named = (l, i, single-listed p (single n) n h is); says = as-set p s t r (single n) (one n) is over });
        all = λ over.
            let is = has-up_to (node_count p) few in
            none (Load t r (up_to (node_count p))) (inl is) (record { named = (l, i, all-listed p (up_to (node_count p)) is); says = as-set p s t r (up_to (node_count p)) (all_nodes p) is over });
      }
  none-unrefuted PairKind t l =
      λ c k e a x. none (Pair c t (record { 0 = x.0 }) (record { 0 = x.1 }) (record { 0 = x.2 })) tt
      (record { named = (slice_get_within p.constraints c k e, l, x.3, x.4, x.5); says = applies-from p c t k (λ k. IsPair p (sure p s t) k x.0 x.1 x.2) e a x.6 })
  none-unrefuted PlaceKind t l =
      λ c k e a x. none (Place c t (record { 0 = x.0 }) (record { 0 = x.1 })) tt
      (record { named = (slice_get_within p.constraints c k e, l, x.2, x.3); says = applies-from p c t k (λ k. IsPlace p (sure p s t) k x.0 x.1) e a x.4 })
  none-unrefuted GroupKind t l =
      λ c k e a x. none (Group c t) tt (record { named = (slice_get_within p.constraints c k e, l); says = applies-from p c t k (IsGroup p (sure p s t)) e a x })
  none-unrefuted SetLoadKind t l =
      λ c k e a x. none (SetLoad c t) tt (record { named = (slice_get_within p.constraints c k e, l); says = applies-from p c t k (IsSetLoad p (sure p s t)) e a x })
  none-unrefuted PowerKind t l =
      λ c k e a x. none (Power c t) tt (record { named = (slice_get_within p.constraints c k e, l); says = applies-from p c t k (IsPower p (sure p s t)) e a x })
  none-unrefuted UsableKind t l =
      λ v n i j x. none (Usable t (record { 0 = v }) (record { 0 = n })) tt (record { named = (l, i, j); says = x })
  none-unrefuted HallKind t l = tt

pub unrefuted_by_reasons : UnrefutedByReasons
unfolding IsUnrefuted
unrefuted_by_reasons p sound bound s = (unrefuted-none p bound s, none-unrefuted p sound bound s)
