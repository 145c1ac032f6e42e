-- Members and all other machines.
use Rattle.rule_pair.proofs.Prelude.{◌≡◌, ℕ, zero, suc, ◌+◌, ◌<◌, IsTrue, List, [], ◌∷◌, refl, eq-eqb, Bool, true, false, ◌||◌, ◌==◌, if◌then◌else◌, length, get_or, take, ap, arith, nat_tests, list_any_more, VmId}
use Rattle.rule_pair.specs.Prelude.{class_of, is_member, IsMember}

either_way : (a b : ℕ) (was : Bool) → ((a == b) || was) ≡ (was || (b == a))
either_way a b true = grind (arith, nat_tests)
either_way a b false = grind (arith, nat_tests)

-- one machine more is in the set
pub mark_more : (vs : List VmId) (i : ℕ) (d : VmId) (v : ℕ) (was : Bool) → i < length vs → was ≡ is_member (take i vs) v → ((v == (get_or vs i d).0) || was) ≡ is_member (take (i + 1) vs) v
mark_more vs i d v was low same = rw (list_any_more (λ x. x.0 == v) vs i d low, ← same) (either_way v (get_or vs i d).0 was)

-- tests that say the same make the same parts
pub same_class : (f g : ℕ → Bool) → ((v : ℕ) → f v ≡ g v) → (v : ℕ) → class_of f v ≡ class_of g v
same_class f g same v = ap (λ (b : Bool). if b then 1 else 0) (same v)

-- the machine at a place of a list is in it
pub member_there : (vs : List VmId) (i v : ℕ) (d : VmId) → i < length vs → (get_or vs i d).0 ≡ v → IsMember vs v
member_there [] i v d h is = absurd (omega (arith, h))
member_there (x ∷ vs) zero v d h is = rw (eq-eqb x.0 v is) refl
member_there (x ∷ vs) (suc i) v d h is = or-later (x.0 == v) (is_member vs v) (member_there vs i v d (omega (arith, h)) is)
  where
    or-later : (a b : Bool) → IsTrue b → IsTrue (a || b)
    or-later true b h = refl
    or-later false b h = h
