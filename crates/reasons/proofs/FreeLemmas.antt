-- When a snapshot is free of standard reasons: a part of one that is, and a plan's where each rule is kept; and what is free of all keeps each rule.
use Rattle.std.proofs.Common.{IsTrue}
use Rattle.std.proofs.lemmas.Bool.{true≢false}
use Rattle.base.proofs.Public.{◌≡◌, inl, ℕ, ◌≤◌, Bool, ◌||◌, ◌==◌, cond, sym, ◌∙◌, arith, and_parts, ltb-true, true_from_ne_false, sum_to-none}
use Rattle.reasons.specs.Prelude.{all_nodes, Allowed, Apart, AreApart, Bound, Bounded, Choices, Constraint as OfConstraint, Empty, Form, form_of, FreeStays, Group, Hall, has_node, InRange, Instance, InTurn, is_continuous, IsFree, IsInstance, IsKept, IsSound, IsValid, Keeps, Load, machine_count, node_count, one, Ordered, Pair, Place, Power, Powered, ReasonKind, Rule, Separation, SetLoad, Settled, Snapshot, snapshot_of, Together, Usable}
use Rattle.slices.specs.declared.rule.Rule.TheVariants.{Load as OfLoad, Usable as OfUsable}
use Rattle.reasons.proofs.LoadLemmas.{no_overload, not_overload-le}
use Rattle.reasons.proofs.PartLemmas.{group-part, overload-part, pair-part, place-part, power-part, set_load-part, unusable-part}
use Rattle.reasons.proofs.PlanLemmas.{holds-no_group, holds-no_pair, holds-no_place, holds-no_power, holds-no_set_load, unbroken-holds}
use Rattle.reasons.proofs.RuleLemmas.{sound_rule}
use Rattle.reasons.proofs.ValidLemmas.{holds-of, keeps-of}

-- a part of a snapshot that is free is free
pub free_stays : FreeStays
free_stays p s big part last Empty free = tt
free_stays p s big part last Bound free = tt
free_stays p s big part last Load free =
    λ r i. record {
      each = λ n l over. (free r i).each n l (overload-part p s big part r (one n) over);
      all = λ over. (free r i).all (overload-part p s big part r (all_nodes p) over);
    }
free_stays p s big part last Pair free =
    λ c k e a x. free c k e a (x.0, x.1, x.2, x.3, x.4, x.5, pair-part p s big part k x.0 x.1 x.2 x.6)
free_stays p s big part last Place free = λ c k e a x. free c k e a (x.0, x.1, x.2, x.3, place-part p s big part k x.0 x.1 x.4)
free_stays p s big part last Group free = λ c k e a x. free c k e a (group-part p s big part k x)
free_stays p s big part last SetLoad free = λ c k e a x. free c k e a (set_load-part p s big part k x)
free_stays p s big part last Power free = λ c k e a x. free c k e a (power-part p s big part k x)
free_stays p s big part last Usable free = λ v n i j x. free v n i j (unusable-part p s big part v n i x)
free_stays p s big part last Hall free = tt

-- a valid plan's snapshot is free
pub valid-free : (p : Instance) → IsInstance p → (plan : Choices) → IsValid p plan → (t : ℕ) → t ≤ p.horizon → (kind : ReasonKind) → IsFree p (snapshot_of p plan t) (t == p.horizon) kind
valid-free p sound plan valid t l Empty = tt
valid-free p sound plan valid t l Bound = tt
valid-free p sound plan valid t l Load =
    λ r i. record {
      each = λ n h. no_overload p sound plan t (t == p.horizon) (keeps-of p sound plan valid t l) r i (one n);
      all = no_overload p sound plan t (t == p.horizon) (keeps-of p sound plan valid t l) r i (all_nodes p);
    }
valid-free p sound plan valid t l Pair =
    λ c k e a x. holds-no_pair p (snapshot_of p plan t) k x.0 x.1 x.2 x.3 x.4 x.5 (holds-of p sound plan valid t l c k e a) x.6
valid-free p sound plan valid t l Place =
    λ c k e a x. holds-no_place p (snapshot_of p plan t) k x.0 x.1 x.2 x.3 (holds-of p sound plan valid t l c k e a) x.4
valid-free p sound plan valid t l Group =
    λ c k e a. holds-no_group p sound plan t k (sound_rule p sound c k e) (holds-of p sound plan valid t l c k e a)
valid-free p sound plan valid t l SetLoad = λ c k e a. holds-no_set_load p (snapshot_of p plan t) k (holds-of p sound plan valid t l c k e a)
valid-free p sound plan valid t l Power = λ c k e a. holds-no_power p (snapshot_of p plan t) k (holds-of p sound plan valid t l c k e a)
valid-free p sound plan valid t l Usable =
    λ v n i j x. true≢false (sym (keeps-of p sound plan valid t l (OfUsable (record { 0 = v }) (record { 0 = n })) (i, j) x.stands) ∙ x.unusable)
valid-free p sound plan valid t l Hall = tt

-- where a plan's snapshot is free of each kind, each rule is kept
pub free-keeps : (p : Instance) → IsInstance p → (plan : Choices) (t : ℕ) (last : Bool) → ((kind : ReasonKind) → IsFree p (snapshot_of p plan t) last kind) → (r : Rule) → InRange p r → Keeps p (snapshot_of p plan t) last r
free-keeps p sound plan t last free (OfLoad n r) i = not_overload-le p (snapshot_of p plan t) r n.0 i.0 ((free Load r i.1).each n.0 i.0)
free-keeps p sound plan t last free (OfUsable v n) i =
    λ x. true_from_ne_false _ (λ e. free Usable v.0 n.0 i.0 i.1 (record { stands = x; unusable = e }))
free-keeps p sound plan t last free (OfConstraint c) i =
    λ a k e.
    let on : IsTrue (is_continuous k || last) = rw e at a in
    unbroken-holds p sound plan t k (sound_rule p sound c k e)
    (record {
      pair = λ v w n i j l x. free Pair c k e on (v, w, n, i, j, l, x);
      place = λ v n i l x. free Place c k e on (v, n, i, l, x);
      group = free Group c k e on;
      set_load = free SetLoad c k e on;
      power = free Power c k e on;
    })

-- ---- where the instance has no element

module _ (p : Instance) (s : Snapshot) (machines : machine_count p ≡ 0) (nodes : node_count p ≡ 0) where
  apart-none : (separation : Separation) → AreApart p s separation
  apart-none separation = λ n v w i. absurd (omega (arith, i, nodes))

  kept-none : (f : Form) → IsSound p f → IsKept p s f
  kept-none (Apart separation) rule = apart-none separation
  kept-none (Allowed vs places) rule = λ v n i. absurd (omega (arith, i, machines))
  kept-none (Together vs groups) rule = inl (λ v n i. absurd (omega (arith, i, machines)))
  kept-none (Ordered before after) rule = absurd (omega (arith, machines, ltb-true before.0 (machine_count p) (and_parts _ _ rule.listed).0))
  kept-none (InTurn vs) rule = λ v w i. absurd (omega (arith, i, machines))
  kept-none (Bounded weight ns amount) rule = omega (arith, sum_to-none (machine_count p) (λ v. s.held v weight (has_node ns)) (λ v i. absurd (omega (arith, i, machines))))
  kept-none (Powered ns amount) rule = omega (arith, sum_to-none (node_count p) (λ n. cond (has_node ns n) (cond (s.powered n) 1 0) 0) (λ n i. absurd (omega (arith, i, nodes))))
  kept-none Settled rule = tt

  pub keeps-none : IsInstance p → (last : Bool) (r : Rule) → InRange p r → Keeps p s last r
  keeps-none sound last (OfLoad n r) i = absurd (omega (arith, i.0, nodes))
  keeps-none sound last (OfUsable v n) i = absurd (omega (arith, i.0, machines))
  keeps-none sound last (OfConstraint c) i = λ a k e. kept-none (form_of k) (sound_rule p sound c k e)
