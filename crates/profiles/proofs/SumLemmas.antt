-- Sums over the numbers of a list in place of all below a bound.
use Rattle.profiles.proofs.Prelude.{◌≡◌, ◌≢◌, inl, inr, ◌⊎◌, ℕ, zero, suc, ◌+◌, ◌-◌, ◌<◌, ◌≤◌, ◌==◌, true, false, cond, List, [], ◌∷◌, ◌++◌, length, refl, sym, subst, take, ◌∙◌, arith, Contains, sum_by, cases_eq, Decides-eqb, nat_tests, take_all, Contains-append_right, Contains-append_cases, Contains-push_cases, sum_by-cons, sum_to-change, sum_to-none, IsEachOnce, sum_to}

-- ---- lists

pub first : (x : ℕ) (xs : List ℕ) → Contains (x ∷ xs) x
first x xs = (0, omega arith, refl)

pub later : (x : ℕ) (xs : List ℕ) (v : ℕ) → Contains xs v → Contains (x ∷ xs) v
later x xs v h = Contains-append_right (x ∷ []) xs v h

none-there : (v : ℕ) → ¬ Contains [] v
none-there v h = omega (arith, h.1)

pub either : (x : ℕ) (xs : List ℕ) (v : ℕ) → Contains (x ∷ xs) v → (x ≡ v) ⊎ Contains xs v
either x xs v h = elim (Contains-append_cases (x ∷ []) xs v h) [ inl one ↦ elim (Contains-push_cases [] x v one) [ inl none ↦ absurd (none-there v none) | inr same ↦ inl same ] | inr there ↦ inr there ]

-- ---- a number left out

without : ℕ → (ℕ → ℕ) → ℕ → ℕ
without x f k = cond (k == x) 0 (f k)

without-it : (x : ℕ) (f : ℕ → ℕ) → without x f x ≡ 0
unfolding without
without-it x f = let same : (x == x) ≡ true = (Decides-eqb x x).1 refl in rw same refl

without-other : (x : ℕ) (f : ℕ → ℕ) (k : ℕ) → k ≢ x → f k ≡ without x f k
unfolding without
without-other x f k other = let apart : (k == x) ≡ false = grind (arith, nat_tests, other) in rw apart refl

same-over : (f g : ℕ → ℕ) (xs : List ℕ) → ((v : ℕ) → Contains xs v → f v ≡ g v) → sum_by f xs ≡ sum_by g xs
same-over f g [] same = refl
same-over f g (x ∷ xs) same =
    let rest = same-over f g xs (λ v h. same v (later x xs v h)) in
    let here = same x (first x xs) in
    omega (arith, sum_by-cons f x xs, sum_by-cons g x xs, rest, here)

-- ---- sums

-- the numbers of a list, each there once, add up to no more than all
pub over_once : (xs : List ℕ) (m : ℕ) (f : ℕ → ℕ) → IsEachOnce xs → ((v : ℕ) → Contains xs v → v < m) → sum_by f xs ≤ sum_to m f
over_once [] m f once below = omega arith
over_once (x ∷ xs) m f once below =
    let rest = over_once xs m (without x f) once.1 (λ v h. below v (later x xs v h)) in
    let change = sum_to-change m f (without x f) x (below x (first x xs)) (λ k other. without-other x f k other) in
    let same = same-over f (without x f) xs (λ v h. without-other x f v (λ e. once.0 (subst (λ k. Contains xs k) e h))) in
    omega (arith, sum_by-cons f x xs, rest, change, same, without-it x f)

-- and to as much where all others are nothing
pub all_over : (xs : List ℕ) (m : ℕ) (f : ℕ → ℕ) → IsEachOnce xs → ((v : ℕ) → Contains xs v → v < m) → ((v : ℕ) → v < m → ¬ Contains xs v → f v ≡ 0) → sum_to m f ≡ sum_by f xs
all_over [] m f once below none = sum_to-none m f (λ k low. none k low (none-there k))
all_over (x ∷ xs) m f once below none =
    let rest = all_over xs m (without x f) once.1 (λ v h. below v (later x xs v h)) (λ v low out. left v low out) in
    let change = sum_to-change m f (without x f) x (below x (first x xs)) (λ k other. without-other x f k other) in
    let same = same-over f (without x f) xs (λ v h. without-other x f v (λ e. once.0 (subst (λ k. Contains xs k) e h))) in
    omega (arith, sum_by-cons f x xs, rest, change, same, without-it x f)
  where
    left : (v : ℕ) → v < m → ¬ Contains xs v → without x f v ≡ 0
    left v low out =
        elim (cases_eq v x) [
          | inl same ↦ rw same (without-it x f)
          | inr other ↦ sym (without-other x f v other) ∙ none v low (λ h. elim (either x xs v h) [ inl is ↦ other (sym is) | inr there ↦ out there ])
        ]

-- as many of them as there are below the bound
ones : (m : ℕ) → sum_to m (λ _. 1) ≡ m
ones zero = refl
ones (suc m) = omega (arith, ones m)

count-over : (xs : List ℕ) → sum_by (λ _. 1) xs ≡ length xs
count-over [] = refl
count-over (x ∷ xs) = omega (arith, sum_by-cons (λ _. 1) x xs, count-over xs)

pub few_once : (xs : List ℕ) (m : ℕ) → IsEachOnce xs → ((v : ℕ) → Contains xs v → v < m) → length xs ≤ m
few_once xs m once below = omega (arith, over_once xs m (λ _. 1) once below, ones m, count-over xs)

-- the sum over the first numbers, where those are all
pub sum_whole : (f : ℕ → ℕ) (xs : List ℕ) (i total : ℕ) → length xs ≤ i → total ≡ sum_by f (take i xs) → total ≡ sum_by f xs
sum_whole f xs i total past is = subst (λ ys. total ≡ sum_by f ys) (take_all i xs past) is

-- ---- one more

pub once_more : (xs : List ℕ) (v : ℕ) → IsEachOnce xs → ¬ Contains xs v → IsEachOnce (xs ++ v ∷ [])
once_more [] v once out = (none-there v, tt)
once_more (x ∷ xs) v once out = (
  λ h. elim (Contains-push_cases xs v x h) [ inl there ↦ once.0 there | inr same ↦ out (subst (λ k. Contains (x ∷ xs) k) (sym same) (first x xs)) ],
  once_more xs v once.1 (λ h. out (later x xs v h)),
)

-- ---- sums that differ for the numbers of a list alone

-- with what each has more than the other, both are the same
both-more : (m : ℕ) (f g : ℕ → ℕ) → sum_to m f + sum_to m (λ v. g v - f v) ≡ sum_to m g + sum_to m (λ v. f v - g v)
both-more zero f g = refl
both-more (suc m) f g = omega (arith, both-more m f g)

pub sum_but_for : (m : ℕ) (f g : ℕ → ℕ) (xs : List ℕ) → IsEachOnce xs → ((v : ℕ) → Contains xs v → v < m) → ((v : ℕ) → v < m → ¬ Contains xs v → f v ≡ g v) →
    sum_to m f + sum_by (λ v. g v - f v) xs ≡ sum_to m g + sum_by (λ v. f v - g v) xs
sum_but_for m f g xs once below same =
    let more = all_over xs m (λ v. g v - f v) once below (λ v low out. omega (arith, same v low out)) in
    let less = all_over xs m (λ v. f v - g v) once below (λ v low out. omega (arith, same v low out)) in
    omega (arith, both-more m f g, more, less)
