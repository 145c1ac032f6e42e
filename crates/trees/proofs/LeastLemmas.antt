-- The least that a tree shows where sets are left.
use Rattle.std.proofs.Common.{min}
use Rattle.base.proofs.Public.{◌≡◌, ◌⊎◌, inl, inr, ℕ, ◌≤◌, List, [], ◌∷◌, ◌++◌, refl, sym, ◌∙◌, arith, Option, Some, None, is_some, Bool, true, false, ◌||◌, IsSomeAnd, false≢true, lower-le}
use Rattle.trees.specs.Prelude.{Choices, cost_of, cut_then, decide_both, fail_leaf, has_left, inside, Instance, IsIn, IsInSome, IsInstance, IsValid, least_cost, least_shown, LeastHolds, LeastIsShown, left_leaf, left_sets, lower, lower_of, lowest, outside, plan_leaf, Sets, steps_of, Tree}
use Rattle.reasons.specs.declared.reason.Reason.TheVariants.{Bound}
use Rattle.reasons.proofs.Public.{refuted_excludes}
use Rattle.trees.proofs.CountLemmas.{has_left_append}
use Rattle.trees.proofs.LeaveLemmas.{none_left, proved_leaves}

-- ---- no valid plan costs less

-- no valid plan of sets costs less than the sum of their least ends
least_cost_under : (p : Instance) → IsInstance p → (s : Sets) (plan : Choices) → IsIn s plan → IsValid p plan → least_cost p s ≤ cost_of p plan
least_cost_under p sound s plan i valid =
    refuted_excludes p sound (Some (least_cost p s)) s Bound (record { named = tt; says = omega arith }) plan i valid

lower_other : (a n : ℕ) (o : Option ℕ) → IsSomeAnd o (λ m. m ≤ n) → lower a o ≤ n
lower_other a n None h = absurd h
lower_other a n (Some b) h = omega arith

lowest_under : (p : Instance) → IsInstance p → (plan : Choices) → IsValid p plan → (sets : List Sets) → IsInSome plan sets → IsSomeAnd (lowest (least_cost p) sets) (λ n. n ≤ cost_of p plan)
lowest_under p sound plan valid [] h = absurd h
lowest_under p sound plan valid (s ∷ rest) (inl i) =
    let first = least_cost_under p sound s plan i valid in
    let low = lower-le (least_cost p s) (lowest (least_cost p) rest) in
    omega arith
lowest_under p sound plan valid (s ∷ rest) (inr h) =
    lower_other (least_cost p s) (cost_of p plan) (lowest (least_cost p) rest) (lowest_under p sound plan valid rest h)

lower_of_under : (bound low : Option ℕ) (n cost : ℕ) → lower_of bound low ≡ Some n → IsSomeAnd bound (λ known. known ≤ cost) ⊎ IsSomeAnd low (λ m. m ≤ cost) → n ≤ cost
lower_of_under bound None n cost e h = absurd (cc)
lower_of_under None (Some m) n cost e (inl h) = absurd h
lower_of_under None (Some m) n cost e (inr h) = let same : m ≡ n = cc in omega arith
lower_of_under (Some known) (Some m) n cost e (inl h) = let same : min m known ≡ n = cc in omega arith
lower_of_under (Some known) (Some m) n cost e (inr h) = let same : min m known ≡ n = cc in omega arith

pub least_holds : LeastHolds
least_holds p sound bound s t n a shown plan i valid =
    lower_of_under bound (lowest (least_cost p) (left_sets s t)) n (cost_of p plan) shown (
    elim (proved_leaves p sound bound s t a plan i valid) [
      | inl h ↦ inl h
      | inr h ↦ inr (lowest_under p sound plan valid (left_sets s t) h)
    ]
    )

-- ---- it is shown exactly where sets are left

both_none : (a b : List Sets) → a ++ b ≡ [] → (a ≡ []) × (b ≡ [])
both_none [] b h = (refl, h)
both_none (s ∷ rest) b h = absurd (cc)

neither_is : (a b : Bool) → a ≡ false → b ≡ false → (a || b) ≡ false
neither_is a b h k = rw (h, k) refl

nothing_left : (t : Tree) (s : Sets) → left_sets s t ≡ [] → has_left (steps_of t) ≡ false
nothing_left (fail_leaf reason) s none = refl
nothing_left (plan_leaf cost) s none = refl
nothing_left left_leaf s none = absurd (cc)
nothing_left (cut_then x part reason t) s none = nothing_left t (outside x part s) none
nothing_left (decide_both x part t u) s none =
    let both = both_none (left_sets (inside x part s) t) (left_sets (outside x part s) u) none in
    has_left_append (steps_of t) (steps_of u)
    ∙ neither_is (has_left (steps_of t)) (has_left (steps_of u)) (nothing_left t (inside x part s) both.0) (nothing_left u (outside x part s) both.1)

pub least_is_shown : LeastIsShown
least_is_shown p bound s t = at (left_sets s t) refl (has_left (steps_of t)) refl
  where
    at : (sets : List Sets) → left_sets s t ≡ sets → (b : Bool) → has_left (steps_of t) ≡ b → is_some (lower_of bound (lowest (least_cost p) sets)) ≡ b
    at [] none b h = sym (nothing_left t s none) ∙ h
    at (g ∷ rest) is true h = refl
    at (g ∷ rest) is false h = let none : left_sets s t ≡ [] = none_left t s h in absurd (cc)

-- and then it is a number
some_number : (o : Option ℕ) → is_some o ≡ true → (n : ℕ) × (o ≡ Some n)
some_number None h = absurd (false≢true h)
some_number (Some n) h = (n, refl)

pub number_shown : (p : Instance) (bound : Option ℕ) (s : Sets) (t : Tree) → has_left (steps_of t) ≡ true → (n : ℕ) × (least_shown p bound s t ≡ Some n)
number_shown p bound s t some = some_number (least_shown p bound s t) (least_is_shown p bound s t ∙ some)
