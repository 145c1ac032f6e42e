-- What is written at a closed region.
use Rattle.base.proofs.Public.{◌≡◌, ℕ, ◌+◌, ◌<◌, ◌≤◌, Bool, List, [], ◌∷◌, ◌++◌, refl, sym, ap, subst, ◌∙◌, arith, Option, Some, None, IfSome, IsTrue}
use Rattle.search.specs.Prelude.{Best, choices_of, cost_kept, Progress, Decide, Element, HasStep, inside, Instance, IsClear, IsFixed, IsInstance, IsLeaf, IsNumber, IsOnly, IsPlanOf, IsSized, IsSplit, IsUndecided, least_cost, Left, lines, lower, Meaning, outside, Pairs, Part, Plan, plan_costs, PlanChoices, RegionView, SameRule, Sets, sets, Step, Underway, Works}
use Rattle.reasons.proofs.Public.{only_closed, only_costs}
use Rattle.trees.proofs.Public.{IsAbove, above_cheapest}
use Rattle.prop_core.proofs.Public.{Rise-trans}
use Rattle.search.proofs.{RegionLemmas.sets_fixed, StepLemmas.step_decide, StepLemmas.step_left, StepLemmas.step_plan, TextLemmas.one_named, WorkLemmas.rise_less, WorkLemmas.rise_rule}

above_some : (n : ℕ) (known : Option ℕ) → IfSome known (λ m. n < m) → IsAbove n known
above_some n None h = tt
above_some n (Some m) h = h

-- the sets are undecided where they are clear and not fixed
pub undecided_of : (p : Instance) (budget : ℕ) (k : Progress) (g : RegionView) (e : List Step) (rest : List Sets) → IsSized p g → IsClear p k.best (sets g) → ¬ IsFixed g → Underway p budget k e (sets g ∷ rest) → IsUndecided p e (sets g)
undecided_of p budget k g e rest sized clear free u = record {
  closed = clear.closed;
  not_one = λ fixed. free (sets_fixed p g sized fixed);
  below = (above_cheapest (least_cost p (sets g)) (plan_costs e)).1 (subst (IsAbove (least_cost p (sets g))) u.best.cheapest (above_some (least_cost p (sets g)) (cost_kept k.best) clear.below));
}

module _ (p : Instance) (budget : ℕ) (tells : Bool) (k l : Progress) (old new : List ℕ) (g : RegionView) (sum : ℕ) (is : sum ≡ least_cost p (sets g)) (clear : IsClear p k.best (sets g)) where
  pub leaf_plan : IsInstance p → IsNumber sum → (plan : PlanChoices) → IsPlanOf p plan → IsOnly (sets g) (choices_of plan) → l ≡ record { spent = k.spent; best = Some (record { plan = plan; cost = sum }); least = k.least } →
      (IsTrue tells → new ≡ old ++ lines p (Plan sum ∷ [])) → IsLeaf p budget tells k l old new (sets g)
  leaf_plan sound number plan whole only now text =
      let costs : least_cost p (sets g) ≡ _ = only_costs p (sets g) (choices_of plan) only in
      let best : Best = record { plan = plan; cost = sum } in
      record {
        step = Plan sum;
        named = number;
        text = text;
        given = refl;
        runs = λ e rest u. step_plan p budget k e (sets g) rest u l best
            (record { plan = choices_of plan; only = only; valid = (only_closed p sound (sets g) (choices_of plan) only).0 clear.closed; costs = sym costs ∙ sym is }) number only
            (record { whole = whole; costs = is ∙ costs }) (subst (λ n. IfSome (cost_kept k.best) (λ known. n < known)) (sym is) clear.below)
            (ap (λ (c : Progress). c.spent) now) (ap (λ (c : Progress). c.best) now) (ap (λ (c : Progress). c.least) now);
      }

  pub leaf_left : IsSized p g → ¬ IsFixed g → budget ≤ k.spent → (least : ℕ) → least ≡ lower sum k.least → l ≡ record { spent = k.spent; best = k.best; least = Some least } → (IsTrue tells → new ≡ old ++ lines p (Left ∷ [])) → IsLeaf p budget tells k l old new (sets g)
  leaf_left sized free full least low now text = record {
    step = Left;
    named = tt;
    text = text;
    given = refl;
    runs = λ e rest u.
        let all : k.spent ≡ budget = (let w = u.within in omega arith) in
        step_left p budget k e (sets g) rest u l sum (undecided_of p budget k g e rest sized clear free u) all (ap (λ (c : Progress). c.spent) now) (ap (λ (c : Progress). c.best) now) (ap (λ (c : Progress). c.least) now ∙ ap (λ n. Some n) low) is;
  }

-- a split
pub split_works : {B : Type 0} (m : B → Meaning) (p : Instance) (tells : Bool) (k l : Progress) (old new : List ℕ) (xs ys zs : List B) (g : RegionView) (x : Element) (part : Part) → IsSized p g → IsClear p k.best (sets g) → ¬ IsFixed g → IsSplit p (sets g) x part → HasStep p (Decide x part) →
    l ≡ record { spent = k.spent + 1; best = k.best; least = k.least } → (IsTrue tells → new ≡ old ++ lines p (Decide x part ∷ [])) → Pairs m SameRule xs ys → Pairs m SameRule ys zs → (budget : ℕ) → k.spent < budget →
    Works m p budget tells k l old new xs zs (sets g) (inside x part (sets g) ∷ outside x part (sets g) ∷ [])
split_works m p tells k l old new xs ys zs g x part sized clear free split named now text r q budget room = record {
  more = Decide x part ∷ [];
  named = one_named p (Decide x part) named;
  text = text;
  given = rise_less m (0 + 0) 0 xs zs (omega arith) (Rise-trans m 0 0 xs ys zs r.count q.count (rise_rule m xs ys r) (rise_rule m ys zs q));
  runs = λ e rest u. step_decide p budget k e (sets g) rest u l x part split named (undecided_of p budget k g e rest sized clear free u) room (ap (λ (c : Progress). c.spent) now) (ap (λ (c : Progress). c.best) now) (ap (λ (c : Progress). c.least) now);
}
