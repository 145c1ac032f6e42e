-- What a search leaves of its certificate, and what its answer is.
use Rattle.base.proofs.Public.{All-nil, ◌≡◌, ◌∙◌, ◌+◌, ℕ, List, [], ◌++◌, Option, Some, None, Bool, refl, ap, subst, inl, inr, IfSome, StartsWith, flat_map, longer_text, sum_to-none, IsTrue}
use Rattle.solver.specs.Prelude.{bytes_of, certificate_text, choices_of, Element, end_line, end_of, Found, goal_in, header_line, Idle, Infeasible, Instance, IsCertificateCut, IsCertified, IsCut, IsPlanOf, IsShown, IsStayed, IsToStay, IsTrueOf, LeavesText, machine_count, Meaning, node, node_count, Optimal, plan_cost, plan_in, PlanChoices, step_line, steps_of, sum_to, Undecided, vm}
use Rattle.search.specs.Prelude.{HasStep}
use Rattle.trees.specs.declared.steps.Goal.TheVariants.{Infeasible as NonePlanned}

-- ---- the certificate

-- what is left where it was not touched
pub untouched : (p : Instance) (file : Option (List ℕ)) → IsCertificateCut p file file
untouched p file = record { steps = []; named = All-nil (HasStep p); goal = NonePlanned; goal_is = tt; cut = inl refl }

-- what is left where the header was not written whole
pub cut_in_header : (p : Instance) (before after : Option (List ℕ)) → IsCut before header_line after → IsCertificateCut p before after
unfolding certificate_text
cut_in_header p before after (inl same) = record { steps = []; named = All-nil (HasStep p); goal = NonePlanned; goal_is = tt; cut = inl same }
cut_in_header p before after (inr cut) = record {
  steps = [];
  named = All-nil (HasStep p);
  goal = NonePlanned;
  goal_is = tt;
  cut = inr (longer_text (header_line ++ flat_map (step_line p) []) (end_line NonePlanned) (bytes_of after) (longer_text header_line (flat_map (step_line p) []) (bytes_of after) cut));
}

-- what is left after the header
pub cut_in_lines : (p : Instance) (tells : Bool) (before middle after : Option (List ℕ)) → IsTrue tells → middle ≡ Some header_line → LeavesText p tells (bytes_of middle) (bytes_of after) → IsCertificateCut p before after
unfolding certificate_text
cut_in_lines p tells before middle after told is left = record {
  steps = left.some;
  named = left.named;
  goal = left.goal;
  goal_is = left.goal_is;
  cut = inr (subst (λ (file : Option (List ℕ)). StartsWith (bytes_of file ++ flat_map (step_line p) left.some ++ end_line left.goal) (bytes_of after)) is (left.front told));
}

-- the whole certificate of what was found
pub certified : {B : Type 0} (m : B → Meaning) (p : Instance) (budget : ℕ) (tells : Bool) (middle after : Option (List ℕ)) (xs ys : List B) (found : Found) → IsTrue tells → middle ≡ Some header_line →
    IsShown m p budget tells (bytes_of middle) after xs ys found → IsCertified p budget found after
unfolding certificate_text
certified m p budget tells middle after xs ys found told is shown = record {
  text = certificate_text p (steps_of shown.tree) (goal_in p budget found);
  shows = record { tree = shown.tree; tree_is = shown.tree_is; whole = refl };
  whole = shown.text told ∙ ap (λ (file : Option (List ℕ)). Some (bytes_of file ++ flat_map (step_line p) (steps_of shown.tree) ++ end_line (goal_in p budget found))) is;
}

-- ---- the answer

-- a plan that is answered is whole
pub whole_plan : (p : Instance) (budget : ℕ) (found : Found) → IsTrueOf p budget found → IfSome (plan_in found) (IsPlanOf p)
whole_plan p budget (Optimal kept) is = is.0
whole_plan p budget Infeasible is = tt
whole_plan p budget (Undecided None least) is = tt
whole_plan p budget (Undecided (Some kept) least) is = is.best_is.whole

-- a plan in which each element is idle costs nothing
idle_costs_nothing : (p : Instance) (kept : PlanChoices) → ((e : Element) → choices_of kept e ≡ Idle) → plan_cost p kept ≡ 0
unfolding end_of
idle_costs_nothing p kept idle = λ i. machines i + nodes i
  where
    machines : sum_to (machine_count p) (λ v. end_of p (vm v) (choices_of kept (vm v))) ≡ 0
    machines = sum_to-none (machine_count p) _ (λ v _. ap (end_of p (vm v)) (idle (vm v)))

    nodes : sum_to (node_count p) (λ n. end_of p (node n) (choices_of kept (node n))) ≡ 0
    nodes = sum_to-none (node_count p) _ (λ n _. ap (end_of p (node n)) (idle (node n)))

-- the answer where staying is a valid plan
pub to_stay : (p : Instance) (tells : Bool) (old : List ℕ) (new : Option (List ℕ)) (found : Found) → IsStayed p tells old new found → IsToStay p found
to_stay p tells old new found is = record {
  plan = is.plan;
  found_is = is.found_is;
  stays = is.stays;
  costs = idle_costs_nothing p is.plan is.stays.idle;
}
