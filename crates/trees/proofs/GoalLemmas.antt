-- What each goal says of all plans of the instance.
use Rattle.base.proofs.Public.{◌≡◌, ℕ, ◌≤◌, refl, sym, subst, Option, Some, None, Bool, true, false, IsSomeAnd}
use Rattle.trees.specs.Prelude.{bound_of, CertificatesHold, Choices, cost_of, decisions, Goal, goal_of, GoalHolds, has_left, Infeasible, Instance, IsHandedIn, IsInstance, IsPlan, IsValid, least_of, least_shown, NoneUndercuts, Optimal, Proves, shown, start_sets, steps_of, Tree, Undecided, within}
use Rattle.trees.proofs.LeaveLemmas.{proved_excludes}
use Rattle.trees.proofs.LeastLemmas.{least_holds, number_shown}
use Rattle.reasons.proofs.Public.{cost_within, start_has, within_valid}

is_optimal : (some : Bool) (count known cost : ℕ) → goal_of some count (Some known) ≡ Optimal cost → (some ≡ false) × (known ≡ cost)
is_optimal true count known cost h = absurd (cc)
is_optimal false count known cost h = (refl, cc)

is_infeasible : (some : Bool) (count : ℕ) (bound : Option ℕ) → goal_of some count bound ≡ Infeasible → (some ≡ false) × (bound ≡ None)
is_infeasible true count bound h = absurd (cc)
is_infeasible false count None h = (refl, refl)
is_infeasible false count (Some known) h = absurd (cc)

is_undecided : (some : Bool) (count n : ℕ) (bound : Option ℕ) → goal_of some count bound ≡ Undecided n → some ≡ true
is_undecided true count n bound h = refl
is_undecided false count n None h = absurd (cc)
is_undecided false count n (Some known) h = absurd (cc)

not_optimal : (some : Bool) (count cost : ℕ) → goal_of some count None ≡ Optimal cost → ⊥
not_optimal true count cost h = absurd (cc)
not_optimal false count cost h = absurd (cc)

-- where nothing is left, no plan of the instance undercuts
no_plan_under : (p : Instance) → IsInstance p → (bound : Option ℕ) (t : Tree) → Proves p bound (start_sets p) t → has_left (steps_of t) ≡ false → (plan : Choices) → IsPlan p plan → IsValid p plan → IsSomeAnd bound (λ known. known ≤ cost_of p plan)
no_plan_under p sound bound t a none plan legal valid =
    subst (λ n. IsSomeAnd bound (λ known. known ≤ n)) (cost_within p plan)
    (proved_excludes p sound bound (start_sets p) t a none (within p plan) (start_has p plan legal) (within_valid p plan valid))

-- and where something is, none undercuts the least
none_undercuts : (p : Instance) → IsInstance p → (bound : Option ℕ) (t : Tree) → Proves p bound (start_sets p) t → (n : ℕ) → least_shown p bound (start_sets p) t ≡ Some n → NoneUndercuts p n
none_undercuts p sound bound t a n least plan legal valid =
    subst (λ cost. n ≤ cost) (cost_within p plan) (least_holds p sound bound (start_sets p) t n a least (within p plan) (start_has p plan legal) (within_valid p plan valid))

certificate : (p : Instance) → IsInstance p → (plan : Option Choices) → IsHandedIn p plan → (goal : Goal) (t : Tree) → Proves p (bound_of p plan) (start_sets p) t → goal ≡ shown (bound_of p plan) (steps_of t) → GoalHolds p plan (least_of p plan t) goal
certificate p sound (Some plan) handed (Optimal cost) t a goal =
    let is = is_optimal (has_left (steps_of t)) (decisions (steps_of t)) (cost_of p plan) cost (sym goal) in
    (record { legal = handed.0; valid = handed.1; least = no_plan_under p sound (Some (cost_of p plan)) t a is.0 }, is.1)
certificate p sound None handed (Optimal cost) t a goal = absurd (not_optimal (has_left (steps_of t)) (decisions (steps_of t)) cost (sym goal))
certificate p sound plan handed Infeasible t a goal =
    let is = is_infeasible (has_left (steps_of t)) (decisions (steps_of t)) (bound_of p plan) (sym goal) in
    λ other legal valid. subst (λ b. IsSomeAnd b (λ known. known ≤ cost_of p other)) is.1 (no_plan_under p sound (bound_of p plan) t a is.0 other legal valid)
certificate p sound plan handed (Undecided count) t a goal =
    let least = number_shown p (bound_of p plan) (start_sets p) t (is_undecided (has_left (steps_of t)) (decisions (steps_of t)) count (bound_of p plan) (sym goal)) in
    subst (λ o. IsSomeAnd o (NoneUndercuts p)) (sym least.1) (none_undercuts p sound (bound_of p plan) t a least.0 least.1)

pub certificates_hold : CertificatesHold
certificates_hold p sound plan handed goal t is = certificate p sound plan handed goal t is.proves is.shows
