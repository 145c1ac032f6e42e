-- The laws of refuted sets.
use Rattle.std.proofs.Common.{slice_get}
use Rattle.std.proofs.lemmas.Bool.{true≢false}
use Rattle.base.proofs.Public.{◌≡◌, ◌≢◌, ◌⊎◌, inl, inr, ℕ, ◌||◌, ◌==◌, List, [], ◌∷◌, length, refl, sym, ap, subst, ◌∙◌, arith, Option, Contains}
use Rattle.reasons.specs.Prelude.{Choice, Choices, EmptyStays, has_node, Instance, is_continuous, IsGroup, IsHall, IsIn, IsInstance, IsNamed, IsPair, IsPlace, IsPower, IsSetLoad, IsValid, Reason, RefutedExcludes, RefutedExcludesAll, Says, Sets, snapshot_of, StaysRefuted, sure}
use Rattle.slices.specs.declared.rule.Rule.TheVariants.{Usable as OfUsable}
use Rattle.reasons.specs.declared.reason.Reason.TheVariants.{Empty, Bound, Load, Pair, Place, Group, SetLoad, Power, Usable, Hall}
use Rattle.reasons.proofs.HallLemmas.{holds-no_hall}
use Rattle.reasons.proofs.LoadLemmas.{no_overload}
use Rattle.reasons.proofs.PartLemmas.{applies-weaker, group-part, hall-part, overload-part, pair-part, parts_are_in, place-part, power-part, set_load-part, unusable-part}
use Rattle.reasons.proofs.PlanLemmas.{holds-no_group, holds-no_pair, holds-no_place, holds-no_power, holds-no_set_load}
use Rattle.reasons.proofs.SureLemmas.{bound-le, least_cost_grows, costs_at_least, sure-part, sure_grows}
use Rattle.reasons.proofs.ValidLemmas.{keeps-of, none_applies}

none-in : (c : Choice) (cs : List Choice) → cs ≡ [] → ¬ Contains cs c
none-in c cs none (k, h, e) = omega (arith, h, ap length none)

-- ---- what is refuted

-- no reason but the bound is there for sets that hold a valid plan
none-says : (p : Instance) → IsInstance p → (bound : Option ℕ) (s : Sets) (plan : Choices) → IsIn s plan → IsValid p plan → (reason : Reason) → reason ≢ Bound → IsNamed p reason → ¬ Says p bound s reason
none-says p sound bound s plan i valid (Empty e) ne named says = none-in (plan e) (s e) says (i e)
none-says p sound bound s plan i valid Bound ne named says = ne refl
none-says p sound bound s plan i valid (Load t r set) ne named says =
    no_overload p sound plan t (t == p.horizon) (keeps-of p sound plan valid t named.0) r named.1 (has_node set)
    (overload-part p (sure p s t) (snapshot_of p plan t) (parts_are_in p _ _ (sure-part p s plan t i)) r (has_node set) says)
none-says p sound bound s plan i valid (Pair c t v w n) ne named says =
    none_applies p sound plan valid t named.1 (λ k. IsPair p (snapshot_of p plan t) k v.0 w.0 n.0) c (λ k rule h. holds-no_pair p (snapshot_of p plan t) k v.0 w.0 n.0 named.2 named.3 named.4 h)
    (applies-weaker (slice_get p.constraints c) (λ k. is_continuous k || (t == p.horizon)) _ _ (λ k. pair-part p (sure p s t) (snapshot_of p plan t) (parts_are_in p _ _ (sure-part p s plan t i)) k v.0 w.0 n.0) says)
none-says p sound bound s plan i valid (Place c t v n) ne named says =
    none_applies p sound plan valid t named.1 (λ k. IsPlace p (snapshot_of p plan t) k v.0 n.0) c (λ k rule h. holds-no_place p (snapshot_of p plan t) k v.0 n.0 named.2 named.3 h)
    (applies-weaker (slice_get p.constraints c) (λ k. is_continuous k || (t == p.horizon)) _ _ (λ k. place-part p (sure p s t) (snapshot_of p plan t) (parts_are_in p _ _ (sure-part p s plan t i)) k v.0 n.0) says)
none-says p sound bound s plan i valid (Group c t) ne named says =
    none_applies p sound plan valid t named.1 (IsGroup p (snapshot_of p plan t)) c (holds-no_group p sound plan t)
    (applies-weaker (slice_get p.constraints c) (λ k. is_continuous k || (t == p.horizon)) _ _ (group-part p (sure p s t) (snapshot_of p plan t) (parts_are_in p _ _ (sure-part p s plan t i))) says)
none-says p sound bound s plan i valid (SetLoad c t) ne named says =
    none_applies p sound plan valid t named.1 (IsSetLoad p (snapshot_of p plan t)) c (λ k rule. holds-no_set_load p (snapshot_of p plan t) k)
    (applies-weaker (slice_get p.constraints c) (λ k. is_continuous k || (t == p.horizon)) _ _ (set_load-part p (sure p s t) (snapshot_of p plan t) (parts_are_in p _ _ (sure-part p s plan t i))) says)
none-says p sound bound s plan i valid (Power c t) ne named says =
    none_applies p sound plan valid t named.1 (IsPower p (snapshot_of p plan t)) c (λ k rule. holds-no_power p (snapshot_of p plan t) k)
    (applies-weaker (slice_get p.constraints c) (λ k. is_continuous k || (t == p.horizon)) _ _ (power-part p (sure p s t) (snapshot_of p plan t) (parts_are_in p _ _ (sure-part p s plan t i))) says)
none-says p sound bound s plan i valid (Usable t v n) ne named says =
    let there = unusable-part p (sure p s t) (snapshot_of p plan t) (parts_are_in p _ _ (sure-part p s plan t i)) v.0 n.0 named.1 says in
    true≢false (sym (keeps-of p sound plan valid t named.0 (OfUsable v n) (named.1, named.2) there.stands) ∙ there.unusable)
none-says p sound bound s plan i valid (Hall c t set) ne named says =
    none_applies p sound plan valid t named.1 (IsHall p (snapshot_of p plan t) (has_node set)) c (holds-no_hall p sound plan t (has_node set))
    (applies-weaker (slice_get p.constraints c) (λ k. is_continuous k || (t == p.horizon)) _ _ (hall-part p (sure p s t) (snapshot_of p plan t) (parts_are_in p _ _ (sure-part p s plan t i)) (has_node set)) says)

pub refuted_excludes_all : RefutedExcludesAll
refuted_excludes_all p sound bound s reason ne refuted plan i valid =
    none-says p sound bound s plan i valid reason ne refuted.named refuted.says

is_bound : (reason : Reason) → (reason ≡ Bound) ⊎ (reason ≢ Bound)
is_bound (Empty e) = inr (λ h. cc)
is_bound Bound = inl refl
is_bound (Load t r set) = inr (λ h. cc)
is_bound (Pair c t v w n) = inr (λ h. cc)
is_bound (Place c t v n) = inr (λ h. cc)
is_bound (Group c t) = inr (λ h. cc)
is_bound (SetLoad c t) = inr (λ h. cc)
is_bound (Power c t) = inr (λ h. cc)
is_bound (Usable t v n) = inr (λ h. cc)
is_bound (Hall c t set) = inr (λ h. cc)

pub refuted_excludes : RefutedExcludes
refuted_excludes p sound bound s reason refuted plan i valid =
    elim (is_bound reason) [
      | inl same ↦
          let says : Says p bound s Bound = subst (Says p bound s) same refuted.says in
          bound-le bound _ _ (costs_at_least p s plan i) says
      | inr ne ↦ absurd (none-says p sound bound s plan i valid reason ne refuted.named refuted.says)
    ]

-- ---- narrower sets

pub empty_stays : EmptyStays
empty_stays p bound s narrow e fewer refuted =
    record { named = refuted.named; says = at (narrow e) refl }
  where
    at : (cs : List Choice) → narrow e ≡ cs → cs ≡ []
    at [] is = refl
    at (c ∷ cs) is =
        let there : Contains (narrow e) c = rw is (0, omega arith, refl) in
        absurd (none-in c (s e) refuted.says (fewer e c there))

pub stays_refuted : StaysRefuted
stays_refuted p bound s narrow (Empty e) fewer some refuted = empty_stays p bound s narrow e fewer refuted
stays_refuted p bound s narrow Bound fewer some refuted =
    record { named = refuted.named; says = bound-le bound _ _ (least_cost_grows p s narrow fewer some) refuted.says }
stays_refuted p bound s narrow (Load t r set) fewer some refuted =
    record { named = refuted.named; says = overload-part p (sure p s t) (sure p narrow t) (sure_grows p s narrow fewer some t) r (has_node set) refuted.says }
stays_refuted p bound s narrow (Pair c t v w n) fewer some refuted = record {
  named = refuted.named;
  says = applies-weaker (slice_get p.constraints c) (λ k. is_continuous k || (t == p.horizon)) _ _ (λ k. pair-part p (sure p s t) (sure p narrow t) (sure_grows p s narrow fewer some t) k v.0 w.0 n.0) refuted.says;
}
stays_refuted p bound s narrow (Place c t v n) fewer some refuted = record {
  named = refuted.named;
  says = applies-weaker (slice_get p.constraints c) (λ k. is_continuous k || (t == p.horizon)) _ _ (λ k. place-part p (sure p s t) (sure p narrow t) (sure_grows p s narrow fewer some t) k v.0 n.0) refuted.says;
}
stays_refuted p bound s narrow (Group c t) fewer some refuted = record {
  named = refuted.named;
  says = applies-weaker (slice_get p.constraints c) (λ k. is_continuous k || (t == p.horizon)) _ _ (group-part p (sure p s t) (sure p narrow t) (sure_grows p s narrow fewer some t)) refuted.says;
}
stays_refuted p bound s narrow (SetLoad c t) fewer some refuted = record {
  named = refuted.named;
  says = applies-weaker (slice_get p.constraints c) (λ k. is_continuous k || (t == p.horizon)) _ _ (set_load-part p (sure p s t) (sure p narrow t) (sure_grows p s narrow fewer some t)) refuted.says;
}
stays_refuted p bound s narrow (Power c t) fewer some refuted = record {
  named = refuted.named;
  says = applies-weaker (slice_get p.constraints c) (λ k. is_continuous k || (t == p.horizon)) _ _ (power-part p (sure p s t) (sure p narrow t) (sure_grows p s narrow fewer some t)) refuted.says;
}
stays_refuted p bound s narrow (Usable t v n) fewer some refuted = record {
  named = refuted.named;
  says = unusable-part p (sure p s t) (sure p narrow t) (sure_grows p s narrow fewer some t) v.0 n.0 refuted.named.1 refuted.says;
}
stays_refuted p bound s narrow (Hall c t set) fewer some refuted = record {
  named = refuted.named;
  says = applies-weaker (slice_get p.constraints c) (λ k. is_continuous k || (t == p.horizon)) _ _ (hall-part p (sure p s t) (sure p narrow t) (sure_grows p s narrow fewer some t) (has_node set)) refuted.says;
}
