-- The whole search: what it shows.
use Rattle.base.proofs.Public.{◌≡◌, ℕ, ◌+◌, ◌≤◌, Bool, List, [], ◌∷◌, ◌++◌, length, refl, sym, ap, subst, ◌∙◌, arith, Option, Some, IfSome, All-nil, StartsWith, IsTrue}
use Rattle.search.specs.Prelude.{answered, Progress, Element, end_line, Fail, Found, found_of, given_sum, Goal, goal_in, Goes, HasStep, Instance, IsElement, IsInstance, IsPlanOf, IsShown, IsTreeOf, IsTrueOf, LeavesText, lines, Meaning, none_yet, Pairs, plan_in, SameRule, Sets, start_sets, Step, Underway}
use Rattle.cert_text.specs.Prelude.{IsGoal}
use Rattle.reasons.specs.declared.reason.Reason.TheVariants.{Empty}
use Rattle.prop_core.proofs.Public.{Rise-trans}
use Rattle.search.proofs.{EndLemmas.plan_whole, EndLemmas.tree_found, EndLemmas.tree_is_true, StepLemmas.step_fail, TextLemmas.one_named, TextLemmas.text_end, WorkLemmas.rise_less, WorkLemmas.rise_rule}

-- nothing was done yet
pub underway_start : (p : Instance) (budget : ℕ) → Underway p budget none_yet [] (start_sets p ∷ [])
underway_start p budget = record {
  leads = refl;
  spent = refl;
  within = omega arith;
  used_up = λ some. absurd (cc);
  best = record { cheapest = refl; met = refl; plan = tt };
  least = refl;
  writable = All-nil (HasStep p);
}

module _ {B : Type 0} (m : B → Meaning) (p : Instance) (budget : ℕ) (tells : Bool) where
  -- an element has no legal choice
  pub start_empty : (k : Progress) (old new : List ℕ) (xs ys : List B) (s : Sets) (x : Element) → IsElement p x → s x ≡ [] → (IsTrue tells → new ≡ old ++ lines p (Fail (Empty x) ∷ [])) → Pairs m SameRule xs ys → Goes m p budget tells k k old new xs ys (s ∷ []) []
  start_empty k old new xs ys s x there none text same = record {
    more = Fail (Empty x) ∷ [];
    named = one_named p (Fail (Empty x)) there;
    text = text;
    given = rise_rule m xs ys same;
    runs = λ e u. step_fail p budget k e s [] u (Empty x) (record { met = λ is. absurd (cc); refuted = λ _. record { named = there; says = none } }) there;
  }

  -- from all legal choices, after the propagators were posted
  pub goes_start : (k l : Progress) (old new : List ℕ) (xs ys zs : List B) (s : Sets) → k ≡ none_yet → s ≡ start_sets p → Pairs m SameRule xs ys → length zs ≡ length ys → Goes m p budget tells k l old new ys zs (s ∷ []) [] → Goes m p budget tells none_yet l old new xs zs (start_sets p ∷ []) []
  goes_start k l old new xs ys zs s none is same count g = record {
    more = g.more;
    named = g.named;
    text = g.text;
    given = rise_less m (0 + answered g.more) (answered g.more) xs zs (omega arith) (Rise-trans m 0 (answered g.more) xs ys zs same.count count (rise_rule m xs ys same) g.given);
    runs = subst (λ (r : Sets). (steps : List Step) → Underway p budget none_yet steps (r ∷ []) → Underway p budget l (steps ++ g.more) []) is
        (subst (λ (c : Progress). (steps : List Step) → Underway p budget c steps (s ∷ []) → Underway p budget l (steps ++ g.more) []) none g.runs);
  }

  -- the plan that is answered is whole
  pub found_whole : (l : Progress) (old new : List ℕ) (xs ys : List B) (found : Found) → Goes m p budget tells none_yet l old new xs ys (start_sets p ∷ []) [] → found ≡ found_of l.best l.least → IfSome (plan_in found) (IsPlanOf p)
  found_whole l old new xs ys found g is = subst (λ (f : Found). IfSome (plan_in f) (IsPlanOf p)) (sym is) (plan_whole p budget l g.more (g.runs [] (underway_start p budget)))

  pub whole_shown : (l : Progress) (old mid : List ℕ) (new : Option (List ℕ)) (xs ys : List B) (found : Found) (claimed : Goal) → Goes m p budget tells none_yet l old mid xs ys (start_sets p ∷ []) [] → found ≡ found_of l.best l.least → claimed ≡ goal_in p budget found → (IsTrue tells → new ≡ Some (mid ++ end_line claimed)) →
      IsShown m p budget tells old new xs ys found
  whole_shown l old mid new xs ys found claimed g is goal_is text =
      let by = tree_found p budget l g.more (g.runs [] (underway_start p budget)) in
      record {
        tree = by.tree;
        tree_is = subst (λ (f : Found). IsTreeOf p budget f by.tree) (sym is) by.tree_is;
        text = λ t. text t ∙ ap (λ a. Some (mid ++ end_line a)) goal_is ∙ ap (λ a. Some (a ++ end_line (goal_in p budget found))) (g.text t) ∙ ap (λ ss. Some (old ++ lines p ss ++ end_line (goal_in p budget found))) by.same;
        given = λ full. subst (λ ss. given_sum m xs + answered ss ≤ given_sum m ys) by.same (g.given.risen full);
      }

  pub whole_true : IsInstance p → (l : Progress) (old mid : List ℕ) (xs ys : List B) (found : Found) → Goes m p budget tells none_yet l old mid xs ys (start_sets p ∷ []) [] → found ≡ found_of l.best l.least → IsTrueOf p budget found
  whole_true sound l old mid xs ys found g is =
      let by = tree_found p budget l g.more (g.runs [] (underway_start p budget)) in
      tree_is_true p sound budget found by.tree (found_whole l old mid xs ys found g is) (subst (λ (f : Found). IsTreeOf p budget f by.tree) (sym is) by.tree_is)

  -- an end line that was refused, or not
  pub whole_text : (k l : Progress) (old mid new : List ℕ) (xs ys : List B) (from now : List Sets) (claimed : Goal) → IsGoal claimed → Goes m p budget tells k l old mid xs ys from now → (IsTrue tells → StartsWith (mid ++ end_line claimed) new) → (IsTrue tells → StartsWith new mid) → LeavesText p tells old new
  whole_text k l old mid new xs ys from now claimed is g front stays = text_end p tells old mid new g.more claimed g.named is g.text front stays
