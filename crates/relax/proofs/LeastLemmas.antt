-- Surely so, where a number is above 0; how great a least value is; none at all.
use Rattle.relax.proofs.Prelude.{IsTrue, ◌≡◌, ◌≢◌, ℕ, ◌≤◌, ◌&&◌, nat_lt, Bool, true, false, Option, Some, None, List, [], ◌∷◌, refl, arith, Contains, nat_tests, Act, Amount, Choice, Element, end_of, held_at, Image, Instance, is_above_none, is_legal, IsInstance, least, lower, lowest, max_held, Nodes, Presence, surely, Weight, Idle, held_is_small, legal_acts_last, lower-le}

and_true : (b : Bool) → (b && true) ≡ b
and_true true = refl
and_true false = refl

pub surely_positive : (f : Choice → ℕ) (cs : List Choice) → surely (λ c. nat_lt 0 (f c)) cs ≡ is_above_none (lowest f cs)
surely_positive f [] = refl
surely_positive f (c ∷ cs) = rw (surely_positive f cs) (step (f c) (lowest f cs))
  where
    step : (n : ℕ) (o : Option ℕ) → (nat_lt 0 n && is_above_none o) ≡ nat_lt 0 (lower n o)
    step n None = and_true (nat_lt 0 n)
    step n (Some m) = grind (arith, nat_tests)

-- a bound of each value is one of the least
pub least_below : (f : Choice → ℕ) (m : ℕ) (cs : List Choice) → ((c : Choice) → f c ≤ m) → least f cs ≤ m
least_below f m [] h = omega arith
least_below f m (c ∷ cs) h = omega (arith, h c, lower-le (f c) (lowest f cs))

held_small : (p : Instance) → IsInstance p → (v : ℕ) (w : Weight) (set : Nodes) (t : ℕ) (c : Choice) → held_at p v w set t c ≤ max_held
held_small p sound v (Amount r) set t c = (held_is_small p sound v set t c).amounts r
held_small p sound v Presence set t c = omega (arith, (held_is_small p sound v set t c).presences)
held_small p sound v Image set t c = omega (arith, (held_is_small p sound v set t c).images)

pub least_held_small : (p : Instance) → IsInstance p → (v : ℕ) (w : Weight) (set : Nodes) (t : ℕ) (cs : List Choice) → least (held_at p v w set t) cs ≤ max_held
least_held_small p sound v w set t cs = least_below (held_at p v w set t) max_held cs (held_small p sound v w set t)

-- there is no least value where there is no choice
pub none_is_empty : (f : Choice → ℕ) (cs : List Choice) → lowest f cs ≡ None → cs ≡ []
none_is_empty f [] h = refl
none_is_empty f (c ∷ cs) h = cc

pub some_is_not : (f : Choice → ℕ) (cs : List Choice) (n : ℕ) → lowest f cs ≡ Some n → cs ≢ []
some_is_not f [] n h = λ e. cc
some_is_not f (c ∷ cs) n h = λ e. cc

-- ---- ends

-- a legal choice ends by the horizon
pub end_small : (p : Instance) → IsInstance p → (e : Element) (c : Choice) → IsTrue (is_legal p e c) → end_of p e c ≤ p.horizon
unfolding end_of
end_small p sound e Idle legal = omega arith
end_small p sound e (Act place s) legal = (legal_acts_last p sound e place s legal).1

-- and so does the one that ends first
pub least_end_small : (p : Instance) → IsInstance p → (e : Element) (cs : List Choice) (n : ℕ) → ((c : Choice) → Contains cs c → IsTrue (is_legal p e c)) → lowest (end_of p e) cs ≡ Some n → n ≤ p.horizon
least_end_small p sound e [] n legal h = cc
least_end_small p sound e (c ∷ cs) n legal h =
    let first = end_small p sound e c (legal c (0, omega arith, refl)) in
    let is : lower (end_of p e c) (lowest (end_of p e) cs) ≡ n = cc in
    omega (arith, lower-le (end_of p e c) (lowest (end_of p e) cs))
