-- What one look at a region comes to: one lemma for each way that it ends.
use Rattle.base.proofs.Public.{◌≡◌, ◌≢◌, ℕ, ◌+◌, ◌<◌, ◌≤◌, Bool, true, false, List, [], ◌∷◌, ◌++◌, refl, sym, ap, subst, ◌∙◌, append_assoc, arith, Option, None, IfSome, IsSomeAnd, All, IsTrue}
use Rattle.search.specs.Prelude.{AllQuiet, Best, by_rule, cost_kept, Progress, Covered, Cut, cut_steps, CutHolds, Element, Fail, FailHolds, HasStep, HaveChoices, Instance, IsAsked, IsClear, IsInstance, least_cost, lines, lowest, Meaning, outside, Pairs, Part, plan_costs, Reason, Refutes, Rise, SameRule, Sets, SomeUpto, Underway, Works}
use Rattle.reasons.specs.declared.reason.Reason.TheVariants.{Empty, Bound}
use Rattle.trees.proofs.Public.{upto_cheapest}
use Rattle.cert_text.proofs.Public.{named_reason}
use Rattle.prop_core.proofs.Public.{closed_when_quiet, covered_after, Rise-trans}
use Rattle.search.proofs.{StepLemmas.step_cut, StepLemmas.step_fail, TextLemmas.one_named, TextLemmas.two_named, WorkLemmas.by_rule_once, WorkLemmas.cover_asked, WorkLemmas.rise_less, WorkLemmas.rise_rule}

-- without a plan the bound refutes nothing
not_bound : (p : Instance) (s : Sets) (reason : Reason) → Refutes p None s reason → reason ≢ Bound
not_bound p s reason r same = let b = subst (Refutes p None s) same r in absurd b.says

-- a plan was met that costs no more than the sum
met_upto : (best : Option Best) (sum n : ℕ) (costs : List ℕ) → cost_kept best ≡ lowest (λ cost. cost) costs → sum ≡ n → IsSomeAnd (cost_kept best) (λ known. known ≤ sum) → SomeUpto n costs
met_upto best sum n costs cheapest is reached =
    (upto_cheapest n costs).1 (subst (λ o. IsSomeAnd o (λ known. known ≤ n)) cheapest (subst (λ k. IsSomeAnd (cost_kept best) (λ known. known ≤ k)) is reached))

module _ {B : Type 0} (m : B → Meaning) (p : Instance) (tells : Bool) (k : Progress) (old new : List ℕ) (xs ys : List B) (s : Sets) where
  -- the bound
  pub look_bound : (sum : ℕ) → sum ≡ least_cost p s → IsSomeAnd (cost_kept k.best) (λ known. known ≤ sum) → (IsTrue tells → new ≡ old ++ lines p (Fail Bound ∷ [])) → Rise m 0 xs ys → (budget : ℕ) → Works m p budget tells k k old new xs ys s []
  look_bound sum is reached text rise budget = record {
    more = Fail Bound ∷ [];
    named = one_named p (Fail Bound) tt;
    text = text;
    given = rise;
    runs = λ e rest u. step_fail p budget k e s rest u Bound (record {
      met = λ _. met_upto k.best sum (least_cost p s) (plan_costs e) u.best.cheapest is reached;
      refuted = λ other. absurd (other refl);
    }) tt;
  }

  -- a propagator's fail
  pub look_fail : IsInstance p → (reason : Reason) → FailHolds p s reason → (IsTrue tells → new ≡ old ++ lines p (Fail reason ∷ [])) → Rise m 1 xs ys → (budget : ℕ) → Works m p budget tells k k old new xs ys s []
  look_fail sound reason holds text rise budget = record {
    more = Fail reason ∷ [];
    named = one_named p (Fail reason) (named_reason p sound reason holds.refuted.named);
    text = text;
    given = rise_less m 1 (by_rule reason + 0) xs ys (let l = by_rule_once reason in omega arith) rise;
    runs = λ e rest u. step_fail p budget k e s rest u reason (record {
      met = λ same. absurd (not_bound p s reason holds.refuted same);
      refuted = λ _. holds.refuted;
    }) (named_reason p sound reason holds.refuted.named);
  }

  -- a propagator's cut
  pub look_cut : (x : Element) (part : Part) (reason : Reason) (t : Sets) → CutHolds p s x part reason → HasStep p (Cut x part reason) → t ≡ outside x part s → (IsTrue tells → new ≡ old ++ lines p (cut_steps true x part reason)) → Rise m 1 xs ys → (budget : ℕ) → Works m p budget tells k k old new xs ys s (t ∷ [])
  look_cut x part reason t holds named is text rise budget = record {
    more = Cut x part reason ∷ [];
    named = one_named p (Cut x part reason) named;
    text = text;
    given = rise;
    runs = λ e rest u. subst (λ (r : Sets). Underway p budget k (e ++ Cut x part reason ∷ []) (r ∷ rest)) (sym is) (step_cut p budget k e s rest u x part reason (record { element = holds.exists; refuted = holds.refuted }) named);
  }

  -- and one that leaves no choice
  pub look_empty : (x : Element) (part : Part) (reason : Reason) (t : Sets) → CutHolds p s x part reason → HasStep p (Cut x part reason) → t ≡ outside x part s → t x ≡ [] → (IsTrue tells → new ≡ old ++ lines p (cut_steps false x part reason)) → Rise m 1 xs ys → (budget : ℕ) → Works m p budget tells k k old new xs ys s []
  look_empty x part reason t holds named is none text rise budget = record {
    more = Cut x part reason ∷ Fail (Empty x) ∷ [];
    named = two_named p (Cut x part reason) (Fail (Empty x)) named holds.exists;
    text = text;
    given = rise;
    runs = λ e rest u.
        let cut = step_cut p budget k e s rest u x part reason (record { element = holds.exists; refuted = holds.refuted }) named in
        let gone : outside x part s x ≡ [] = ap (λ (r : Sets). r x) (sym is) ∙ none in
        subst (λ a. Underway p budget k a rest) (append_assoc e (Cut x part reason ∷ []) (Fail (Empty x) ∷ []))
        (step_fail p budget k (e ++ Cut x part reason ∷ []) (outside x part s) rest cut (Empty x) (record {
          met = λ same. absurd (cc);
          refuted = λ _. record { named = holds.exists; says = gone };
        }) holds.exists);
  }

-- all are quiet
pub look_clear : {B : Type 0} (m : B → Meaning) (p : Instance) (best : Option Best) (s : Sets) (sum : ℕ) (xs ys : List B) → Covered m xs → Pairs m (IsAsked p s) xs ys → All (λ b. AllQuiet p s (m b)) ys → HaveChoices p s → sum ≡ least_cost p s → IfSome (cost_kept best) (λ known. sum < known) → IsClear p best s
look_clear m p best s sum xs ys covered asked quiet some is below = record {
  closed = closed_when_quiet m p s ys (covered_after m xs ys (cover_asked m p s xs ys asked) covered) quiet some;
  below = subst (λ n. IfSome (cost_kept best) (λ known. n < known)) is below;
}

-- the counts after a question, and after the propagators were told of what came of it
pub asked_told : {B : Type 0} (m : B → Meaning) (p : Instance) (s : Sets) (xs ys zs : List B) → Pairs m (IsAsked p s) xs ys → Rise m 1 xs ys → Pairs m SameRule ys zs → Rise m 1 xs zs
asked_told m p s xs ys zs asked rise same = rise_less m (1 + 0) 1 xs zs (omega arith) (Rise-trans m 1 0 xs ys zs asked.count same.count rise (rise_rule m ys zs same))
