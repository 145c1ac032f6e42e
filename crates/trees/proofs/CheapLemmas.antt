-- The cheapest of costs stands for them all; and sets that are the same for each element are the same.
use mathlib.Core.Path.{fun_ext}
use Rattle.std.proofs.Common.{◌↔◌, min}
use Rattle.base.proofs.Public.{◌≡◌, ◌⊎◌, inl, inr, ℕ, ◌<◌, ◌≤◌, List, [], ◌∷◌, ◌++◌, refl, ap, ◌∙◌, arith, Option, Some, None, IsSomeAnd}
use Rattle.trees.specs.Prelude.{AllAbove, AllFrom, Element, IsLow, lower, lowest, Sets, SomeUpto}

pub same_sets : (a b : Sets) → ((e : Element) → a e ≡ b e) → a ≡ b
same_sets a b same = fun_ext same

-- ---- one more value

lower_swap : (a b : ℕ) (o : Option ℕ) → lower a (Some (lower b o)) ≡ lower b (Some (lower a o))
lower_swap a b None = omega arith
lower_swap a b (Some c) = omega arith

pub lowest_push : {A : Type 0} (f : A → ℕ) (xs : List A) (x : A) → lowest f (xs ++ x ∷ []) ≡ Some (lower (f x) (lowest f xs))
lowest_push f [] x = refl
lowest_push f (y ∷ ys) x = ap (λ o. Some (lower (f y) o)) (lowest_push f ys x) ∙ ap (λ n. Some n) (lower_swap (f y) (f x) (lowest f ys))

-- ---- the cheapest cost

abbrev cheapest : List ℕ → Option ℕ
cheapest costs = lowest (λ cost. cost) costs

lower_or : (a n : ℕ) (o : Option ℕ) → lower a o ≤ n → (a ≤ n) ⊎ IsSomeAnd o (λ c. c ≤ n)
lower_or a n None h = inl h
lower_or a n (Some b) h = grind arith

or_lower : (a n : ℕ) (o : Option ℕ) → (a ≤ n) ⊎ IsSomeAnd o (λ c. c ≤ n) → lower a o ≤ n
or_lower a n None (inl h) = h
or_lower a n None (inr h) = absurd h
or_lower a n (Some b) (inl h) = omega arith
or_lower a n (Some b) (inr h) = omega arith

-- some cost is at most a number exactly where the cheapest is
pub upto_cheapest : (n : ℕ) (costs : List ℕ) → (SomeUpto n costs) ↔ (IsSomeAnd (lowest (λ cost. cost) costs) (λ c. c ≤ n))
upto_cheapest n [] = (λ h. h, λ h. h)
upto_cheapest n (cost ∷ costs) =
    let rest = upto_cheapest n costs in (
      λ h. or_lower cost n (cheapest costs) (elim h [ inl k ↦ inl k | inr k ↦ inr (rest.0 k) ]),
      λ h. elim (lower_or cost n (cheapest costs) h) [ inl k ↦ inl k | inr k ↦ inr (rest.1 k) ],
    )

-- each cost is above a number exactly where the cheapest is, if there is one
abbrev pub IsAbove : ℕ → Option ℕ → Type 0
IsAbove n None = Unit {0}
IsAbove n (Some cost) = n < cost

above_both : (a n : ℕ) (o : Option ℕ) → (n < a) × IsAbove n o → n < lower a o
above_both a n None h = h.0
above_both a n (Some b) h = omega (arith, h.0, h.1)

both_above : (a n : ℕ) (o : Option ℕ) → n < lower a o → (n < a) × IsAbove n o
both_above a n None h = (h, tt)
both_above a n (Some b) h = (omega arith, omega arith)

pub above_cheapest : (n : ℕ) (costs : List ℕ) → (AllAbove n costs) ↔ (IsAbove n (lowest (λ cost. cost) costs))
above_cheapest n [] = (λ h. h, λ h. h)
above_cheapest n (cost ∷ costs) =
    let rest = above_cheapest n costs in (
      λ h. above_both cost n (cheapest costs) (h.0, rest.0 h.1),
      λ h. let both = both_above cost n (cheapest costs) h in (both.0, rest.1 both.1),
    )

-- the cheapest is at most each
from_less : (a b : ℕ) (costs : List ℕ) → a ≤ b → AllFrom b costs → AllFrom a costs
from_less a b [] h k = tt
from_less a b (cost ∷ costs) h k = (omega (arith, k.0), from_less a b costs h k.1)

from_lower : (a : ℕ) (o : Option ℕ) (costs : List ℕ) → IsLow o costs → AllFrom (lower a o) (a ∷ costs)
from_lower a None [] h = (omega arith, tt)
from_lower a None (cost ∷ costs) h = absurd (cc)
from_lower a (Some b) costs h = (omega arith, from_less (min a b) b costs (omega arith) h)

pub cheapest_is_low : (costs : List ℕ) → IsLow (lowest (λ cost. cost) costs) costs
cheapest_is_low [] = refl
cheapest_is_low (cost ∷ costs) = from_lower cost (cheapest costs) costs (cheapest_is_low costs)
