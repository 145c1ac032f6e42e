-- Members of lists, step by step.
use Rattle.std.proofs.Common.{map}
use Rattle.base.proofs.Public.{◌≡◌, ◌⊎◌, inl, inr, ℕ, zero, suc, ◌<◌, Bool, true, false, cond, List, [], ◌∷◌, refl, subst, sym, ◌∙◌, arith, Contains, filter, flat_map, range_with_len, false≢true, Contains-append_left, Contains-append_right, get_or-range_with_len, length-range_with_len}

pub first-in : {X : Type 0} (x : X) (xs : List X) → Contains (x ∷ xs) x
first-in x xs = (0, omega arith, refl)

pub later-in : {X : Type 0} (x y : X) (xs : List X) → Contains xs y → Contains (x ∷ xs) y
later-in x y xs (k, h, e) = (suc k, omega arith, e)

pub cases-in : {X : Type 0} (x y : X) (xs : List X) → Contains (x ∷ xs) y → (x ≡ y) ⊎ Contains xs y
cases-in x y xs (zero, h, e) = inl e
cases-in x y xs (suc k, h, e) = inr (k, omega arith, e)

pub none-in : {X : Type 0} (x : X) → ¬ Contains [] x
none-in x (k, h, e) = omega arith

-- a filter has what passes it, and nothing else
pub filter-in : {X : Type 0} (test : X → Bool) (xs : List X) (y : X) → Contains xs y → test y ≡ true → Contains (filter test xs) y
filter-in test [] y h pass = absurd (none-in y h)
filter-in test (x ∷ xs) y h pass = at (test x) refl (cases-in x y xs h) (λ l. filter-in test xs y l pass)
  where
    at : (b : Bool) → test x ≡ b → (x ≡ y) ⊎ Contains xs y → (Contains xs y → Contains (filter test xs) y) → Contains (cond b (x ∷ filter test xs) (filter test xs)) y
    at true e (inl same) rest = rw (← same) (first-in x (filter test xs))
    at true e (inr later) rest = later-in x y (filter test xs) (rest later)
    at false e (inl same) rest = absurd (false≢true (sym e ∙ rw same pass))
    at false e (inr later) rest = rest later

pub in-filter : {X : Type 0} (test : X → Bool) (xs : List X) (y : X) → Contains (filter test xs) y → test y ≡ true
in-filter test [] y h = absurd (none-in y h)
in-filter test (x ∷ xs) y h = at (test x) refl h (λ l. in-filter test xs y l)
  where
    at : (b : Bool) → test x ≡ b → Contains (cond b (x ∷ filter test xs) (filter test xs)) y → (Contains (filter test xs) y → test y ≡ true) → test y ≡ true
    at true e k rest = elim (cases-in x y (filter test xs) k) [ inl same ↦ rw (← same) e | inr later ↦ rest later ]
    at false e k rest = rest k

pub flat_map-in : {X Y : Type 0} (f : X → List Y) (xs : List X) (x : X) (y : Y) → Contains xs x → Contains (f x) y → Contains (flat_map f xs) y
flat_map-in f [] x y h k = absurd (none-in x h)
flat_map-in f (z ∷ zs) x y h k =
    elim (cases-in z x zs h) [
      | inl same ↦ Contains-append_left (f z) (flat_map f zs) y (rw same k)
      | inr later ↦ Contains-append_right (f z) (flat_map f zs) y (flat_map-in f zs x y later k)
    ]

pub map-in : {X Y : Type 0} (f : X → Y) (xs : List X) (x : X) → Contains xs x → Contains (map f xs) (f x)
map-in f [] x h = absurd (none-in x h)
map-in f (z ∷ zs) x h =
    elim (cases-in z x zs h) [
      | inl same ↦ subst (λ y. Contains (map f (z ∷ zs)) (f y)) same (first-in (f z) (map f zs))
      | inr later ↦ later-in (f z) (f x) (map f zs) (map-in f zs x later)
    ]

pub range-in : (n k : ℕ) → k < n → Contains (range_with_len 0 n) k
range-in n k l = (k, omega (arith, l, length-range_with_len 0 n), omega (arith, get_or-range_with_len 0 n k k l))
