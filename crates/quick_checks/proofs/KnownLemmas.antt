-- What the numbers of machines tell.
use Rattle.quick_checks.proofs.Prelude.{IsTrue, ◌≡◌, ℕ, ◌<◌, ◌≤◌, nat_lt, Bool, List, [], ◌∷◌, refl, sym, arith, nat_tests, and_parts, true, lower, Option, None, Some, lowest, kept_law, present_law, Amount, Choice, Instance, IsInstance, IsStanding, kept_use, least, max_held, never, Nodes, one, Presence, present_at, Sets, Standing, surely, vm, Weight}
use Rattle.quick_checks.specs.Prelude.{held_at, sure}
use Rattle.slices.proofs.Public.{held_is_small, held_on_more, present_on_set}
use Rattle.slices.specs.declared.slice.Weight.TheVariants.{Image}

-- ---- amounts

lower-le : (n : ℕ) (o : Option ℕ) → lower n o ≤ n
lower-le n None = omega arith
lower-le n (Some m) = grind (arith, nat_tests)

least-below : (f : Choice → ℕ) (m : ℕ) (cs : List Choice) → ((c : Choice) → f c ≤ m) → least f cs ≤ m
least-below f m [] h = omega arith
least-below f m (c ∷ cs) h = omega (arith, h c, lower-le (f c) (lowest f cs))

module _ (p : Instance) (s : Sets) (v t : ℕ) (k : Standing) (short : t < never) (is : IsStanding p v (s (vm v)) k) where
  pub used_there : (r n : ℕ) → kept_use p v (Amount r) n t k ≡ (sure p s t).held v (Amount r) (one n)
  unfolding sure
  used_there r n = sym (kept_law p v (Amount r) n t (s (vm v)) k short is)

  pub used_small : (r n : ℕ) → IsInstance p → kept_use p v (Amount r) n t k ≤ max_held
  used_small r n sound =
      let law : least (held_at p v (Amount r) (one n) t) (s (vm v)) ≡ kept_use p v (Amount r) n t k = kept_law p v (Amount r) n t (s (vm v)) k short is in
      let small : least (held_at p v (Amount r) (one n) t) (s (vm v)) ≤ max_held = least-below (held_at p v (Amount r) (one n) t) max_held (s (vm v)) (λ c. (held_is_small p sound v (one n) t c).amounts r) in
      omega (arith, law, small)

least-more : (f g : Choice → ℕ) (cs : List Choice) → ((c : Choice) → f c ≤ g c) → least f cs ≤ least g cs
least-more f g [] h = omega arith
least-more f g (c ∷ []) h = omega (arith, h c)
least-more f g (c ∷ d ∷ ds) h = omega (arith, h c, least-more f g (d ∷ ds) h)

one-in : (set : Nodes) (n k : ℕ) → IsTrue (set n) → IsTrue (one n k) → IsTrue (set k)
one-in set n k h e = let same : k ≡ n = grind (arith, nat_tests) in rw same h

-- what a machine has on a node is no more than what it has on a set with it
pub kept_inside : (p : Instance) (v : ℕ) (w : Weight) (n : ℕ) (set : Nodes) (t : ℕ) (cs : List Choice) (k : Standing) → t < never → IsTrue (set n) → IsStanding p v cs k → kept_use p v w n t k ≤ least (held_at p v w set t) cs
kept_inside p v w n set t cs k short inside is =
    let law : least (held_at p v w (one n) t) cs ≡ kept_use p v w n t k = kept_law p v w n t cs k short is in
    omega (arith, law, least-more (held_at p v w (one n) t) (held_at p v w set t) cs (λ c. held_on_more p v w (one n) set t c (λ m e. one-in set n m inside e)))

held-small : (p : Instance) → IsInstance p → (v : ℕ) (w : Weight) (set : Nodes) (t : ℕ) (c : Choice) → held_at p v w set t c ≤ max_held
held-small p sound v (Amount r) set t c = (held_is_small p sound v set t c).amounts r
held-small p sound v Presence set t c = omega (arith, (held_is_small p sound v set t c).presences)
held-small p sound v Image set t c = omega (arith, (held_is_small p sound v set t c).images)

pub least_is_small : (p : Instance) → IsInstance p → (v : ℕ) (w : Weight) (set : Nodes) (t : ℕ) (cs : List Choice) → least (held_at p v w set t) cs ≤ max_held
least_is_small p sound v w set t cs = least-below (held_at p v w set t) max_held cs (held-small p sound v w set t)

-- ---- presence

surely-more : (f g : Choice → Bool) (cs : List Choice) → ((c : Choice) → IsTrue (f c) → IsTrue (g c)) → IsTrue (surely f cs) → IsTrue (surely g cs)
surely-more f g [] more h = refl
surely-more f g (c ∷ cs) more h =
    let parts = and_parts (f c) (surely f cs) h in
    let first : g c ≡ true = more c parts.0 in
    rw first (surely-more f g cs more parts.1)

on-choices : (p : Instance) (v n t : ℕ) (cs : List Choice) (k : Standing) → t < never → IsStanding p v cs k → IsTrue (nat_lt 0 (kept_use p v Presence n t k)) → IsTrue (surely (present_at p v (one n) t) cs)
on-choices p v n t [] k short is h = refl
on-choices p v n t (c ∷ cs) k short is h =
    let law : surely (present_at p v (one n) t) (c ∷ cs) ≡ nat_lt 0 (kept_use p v Presence n t k) = present_law p v n t (c ∷ cs) k short (λ e. cc) is in
    rw law h

module _ (p : Instance) (s : Sets) (v t : ℕ) (k : Standing) (short : t < never) (is : IsStanding p v (s (vm v)) k) where
  pub stands_there : (n : ℕ) → IsTrue (nat_lt 0 (kept_use p v Presence n t k)) → IsTrue ((sure p s t).present v (one n))
  unfolding sure
  stands_there n h = on-choices p v n t (s (vm v)) k short is h

  pub stands_inside : (n : ℕ) (set : Nodes) → IsTrue (set n) → IsTrue (nat_lt 0 (kept_use p v Presence n t k)) → IsTrue ((sure p s t).present v set)
  unfolding sure
  stands_inside n set inside h =
      surely-more (present_at p v (one n) t) (present_at p v set t) (s (vm v)) (λ c there. present_on_set p v n set t c inside there) (on-choices p v n t (s (vm v)) k short is h)

-- a machine that is surely on a node is in each area that has it
pub present_inside : (p : Instance) (s : Sets) (v t n : ℕ) (set : Nodes) → IsTrue (set n) → IsTrue ((sure p s t).present v (one n)) → IsTrue ((sure p s t).present v set)
unfolding sure
present_inside p s v t n set inside h = surely-more (present_at p v (one n) t) (present_at p v set t) (s (vm v)) (λ c there. present_on_set p v n set t c inside there) h

pub seen_standing : (p : Instance) (v : ℕ) (cs ds : List Choice) (k : Standing) → cs ≡ ds → IsStanding p v ds k → IsStanding p v cs k
seen_standing p v cs ds k same is = rw same is
