-- Where no node has two members of a spread, no more of them are on the nodes of a set than it has nodes: each is on a node of the set,
-- and each of these counts once.
use Rattle.std.proofs.Common.{IsTrue}
use Rattle.std.proofs.lemmas.Bool.{true≢false}
use Rattle.base.proofs.Public.{◌≡◌, ◌≢◌, ◌⊎◌, inl, inr, ℕ, zero, suc, ◌<◌, ◌≤◌, Bool, true, false, ◌==◌, not, cond, List, [], ◌∷◌, length, refl, sym, subst, ◌∙◌, arith, filter, and_parts, eq-eqb, not-true, or_left, or_right, sum_to-le, cond-le}
use Rattle.reasons.specs.Prelude.{Allowed, Apart, are_below, AreApart, Between, Bounded, Choices, differ, Each, ExceedsNodes, ExceedsSeparated, Form, form_of, FromOthers, Holds, Instance, InTurn, is_member, IsHall, IsInstance, IsKept, IsMember, IsSound, machine_count, node_count, Nodes, nodes_in, one, Ordered, Powered, present_at, Separation, Settled, snapshot_of, sum_to, Together, vm, VmId}
use Rattle.catalogue.specs.declared.constraint.Constraint.{Constraint}
use Rattle.slices.proofs.Public.{present_somewhere}
use Rattle.slices.proofs.Public.{member_below}

-- terms that are no less, and one that is more
sum_to-more : (n : ℕ) (f g : ℕ → ℕ) (place : ℕ) → place < n → ((k : ℕ) → k < n → f k ≤ g k) → f place < g place → sum_to n f < sum_to n g
sum_to-more zero f g place l le lt = absurd (omega arith)
sum_to-more (suc n) f g place l le lt =
    let split : (place ≡ n) ⊎ (place < n) = grind arith in
    elim split [
      | inl here ↦
          let last : f n < g n = subst (λ k. f k < g k) here lt in
          omega (arith, sum_to-le n f g (λ k h. le k (omega arith)), last)
      | inr before ↦ omega (arith, sum_to-more n f g place before (λ k h. le k (omega arith)) lt, le n (omega arith))
    ]

-- how many machines of a list pass a test
abbrev count : (VmId → Bool) → List VmId → ℕ
count test vs = length (filter test vs)

count-rest : (test : VmId → Bool) (x : VmId) (xs : List VmId) → count test xs ≤ count test (x ∷ xs)
count-rest test x xs = at (test x)
  where
    at : (b : Bool) → length (filter test xs) ≤ length (cond b (x ∷ filter test xs) (filter test xs))
    at true = omega arith
    at false = omega arith

count-here : (test : VmId → Bool) (x : VmId) (xs : List VmId) → IsTrue (test x) → count test (x ∷ xs) ≡ suc (count test xs)
count-here test x xs e = rw e refl

count-none : (test : VmId → Bool) (xs : List VmId) → ((v : VmId) → IsMember xs v.0 → test v ≡ false) → count test xs ≡ 0
count-none test [] h = refl
count-none test (x ∷ xs) h =
    rw (h x (or_left (x.0 == x.0) (is_member xs x.0) (eq-eqb x.0 x.0 refl))) (count-none test xs (λ v m. h v (or_right (x.0 == v.0) (is_member xs v.0) m)))

module _ (p : Instance) (sound : IsInstance p) (plan : Choices) (t : ℕ) (vs : List VmId) (below : are_below (machine_count p) vs ≡ true)
    (apart : (n v w : ℕ) → n < node_count p → v < machine_count p → w < machine_count p → IsMember vs v → IsMember vs w → v ≢ w → IsTrue (present_at p v (one n) t (plan (vm v))) → present_at p w (one n) t (plan (vm w)) ≡ false) where
  abbrev is_on : Nodes → VmId → Bool
  is_on set v = present_at p v.0 set t (plan (vm v.0))

  one_at_most : (n : ℕ) → n < node_count p → (us : List VmId) → differ us ≡ true → ((v : ℕ) → IsMember us v → IsMember vs v) → count (is_on (one n)) us ≤ 1
  one_at_most n l [] d some = omega arith
  one_at_most n l (x ∷ xs) d some = at (is_on (one n) x) refl (one_at_most n l xs parts.1 (λ v m. some v (or_right (x.0 == v) (is_member xs v) m)))
    where
      parts : (not (is_member xs x.0) ≡ true) × (differ xs ≡ true)
      parts = and_parts (not (is_member xs x.0)) (differ xs) d

      here : IsMember vs x.0
      here = some x.0 (or_left (x.0 == x.0) (is_member xs x.0) (eq-eqb x.0 x.0 refl))

      other : (v : VmId) → IsMember xs v.0 → IsTrue (is_on (one n) x) → is_on (one n) v ≡ false
      other v m e =
          let there = some v.0 (or_right (x.0 == v.0) (is_member xs v.0) m) in
          apart n x.0 v.0 l (member_below (machine_count p) vs x.0 below here) (member_below (machine_count p) vs v.0 below there) here there
          (λ same. true≢false (sym (subst (IsMember xs) (sym same) m) ∙ not-true (is_member xs x.0) parts.0)) e

      at : (b : Bool) → is_on (one n) x ≡ b → count (is_on (one n)) xs ≤ 1 → length (cond b (x ∷ filter (is_on (one n)) xs) (filter (is_on (one n)) xs)) ≤ 1
      at true e rest = let none = count-none (is_on (one n)) xs (λ v m. other v m e) in omega (arith, none)
      at false e rest = rest

  by_nodes : (set : Nodes) (us : List VmId) → count (is_on set) us ≤ sum_to (node_count p) (λ n. cond (set n) (count (is_on (one n)) us) 0)
  by_nodes set [] = omega arith
  by_nodes set (x ∷ xs) = at (is_on set x) refl (by_nodes set xs)
    where
      le : (n : ℕ) → n < node_count p → cond (set n) (count (is_on (one n)) xs) 0 ≤ cond (set n) (count (is_on (one n)) (x ∷ xs)) 0
      le n l = cond-le (set n) _ _ (λ h. count-rest (is_on (one n)) x xs)

      more : (n : ℕ) → IsTrue (set n) → IsTrue (is_on (one n) x) → cond (set n) (count (is_on (one n)) xs) 0 < cond (set n) (count (is_on (one n)) (x ∷ xs)) 0
      more n h e = rw (h, count-here (is_on (one n)) x xs e) (omega arith)

      at : (b : Bool) → is_on set x ≡ b → count (is_on set) xs ≤ sum_to (node_count p) (λ n. cond (set n) (count (is_on (one n)) xs) 0) → length (cond b (x ∷ filter (is_on set) xs) (filter (is_on set) xs)) ≤ sum_to (node_count p) (λ n. cond (set n) (count (is_on (one n)) (x ∷ xs)) 0)
      at true e rest =
          let there = present_somewhere p sound x.0 set t (plan (vm x.0)) e in
          omega (arith, rest, sum_to-more (node_count p) (λ n. cond (set n) (count (is_on (one n)) xs) 0) (λ n. cond (set n) (count (is_on (one n)) (x ∷ xs)) 0) there.0 there.1 le (more there.0 there.2 there.3))
      at false e rest = omega (arith, rest, sum_to-le (node_count p) (λ n. cond (set n) (count (is_on (one n)) xs) 0) (λ n. cond (set n) (count (is_on (one n)) (x ∷ xs)) 0) le)

  no_more_than_nodes : differ vs ≡ true → (set : Nodes) → count (is_on set) vs ≤ nodes_in p set
  no_more_than_nodes d set =
      omega (arith, by_nodes set vs, sum_to-le (node_count p) (λ n. cond (set n) (count (is_on (one n)) vs) 0) (λ n. cond (set n) 1 0) (λ n l. cond-le (set n) _ 1 (λ h. one_at_most n l vs d (λ v m. m))))

module _ (p : Instance) (sound : IsInstance p) (plan : Choices) (t : ℕ) where
  apart-no_hall : (set : Nodes) (separation : Separation) → IsSound p (Apart separation) → AreApart p (snapshot_of p plan t) separation → ¬ ExceedsSeparated p (snapshot_of p plan t) set separation
  apart-no_hall set (Each vs) rule h = λ x. omega (arith, x, no_more_than_nodes p sound plan t vs rule.listed (λ n v w l i j m k d x. h n v w l i j (m, k, d) x) rule.differ set)
  apart-no_hall set (Between parts) rule h = λ x. x
  apart-no_hall set (FromOthers vs) rule h = λ x. x

  kept-no_hall : (set : Nodes) (f : Form) → IsSound p f → IsKept p (snapshot_of p plan t) f → ¬ ExceedsNodes p (snapshot_of p plan t) set f
  kept-no_hall set (Apart separation) rule h = apart-no_hall set separation rule h
  kept-no_hall set (Allowed vs places) rule h = λ x. x
  kept-no_hall set (Together vs groups) rule h = λ x. x
  kept-no_hall set (Ordered before after) rule h = λ x. x
  kept-no_hall set (InTurn vs) rule h = λ x. x
  kept-no_hall set (Bounded weight ns amount) rule h = λ x. x
  kept-no_hall set (Powered ns amount) rule h = λ x. x
  kept-no_hall set Settled rule h = λ x. x

  pub holds-no_hall : (set : Nodes) (k : Constraint) → IsSound p (form_of k) → Holds p (snapshot_of p plan t) k → ¬ IsHall p (snapshot_of p plan t) set k
  holds-no_hall set k rule h = kept-no_hall set (form_of k) rule h
