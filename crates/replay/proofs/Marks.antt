-- Marks at instants.
use Rattle.base.proofs.Public.{◌≡◌, inl, inr, ℕ, ◌+◌, ◌<◌, replicate, ◌||◌, ◌==◌, Bool, true, false, List, length, take, ◌++◌, refl, sym, ◌∙◌, ap, arith, cases_eq, nat_tests, get_or-set_same, get_or-set_other, length-replicate, length-set, or_assoc, take-append_seam, copies_at, slice_index_or, slice_set}
use Rattle.replay.specs.Prelude.{Act, Choice, Element, end_of, Instance, Place, turns}

-- one mark more
pub marked : (marks : List Bool) (i t : ℕ) → i < length marks → slice_index_or (slice_set marks i true) t false ≡ (slice_index_or marks t false || (t == i))
marked marks i t low =
    elim (cases_eq t i) [
      | inl e ↦ rw e (get_or-set_same marks i true false low ∙ sym (here (slice_index_or marks i false)))
      | inr n ↦ get_or-set_other marks i t true false n ∙ sym (there (slice_index_or marks t false) n)
    ]
  where
    here : (b : Bool) → (b || (i == i)) ≡ true
    here b = grind (arith, nat_tests)

    there : (b : Bool) → ¬ (t ≡ i) → (b || (t == i)) ≡ b
    there b n = grind (arith, nat_tests)

-- two marks more
pub both_marked : (marks : List Bool) (i k t : ℕ) → i < length marks → k < length marks → slice_index_or (slice_set (slice_set marks i true) k true) t false ≡ (slice_index_or marks t false || ((t == i) || (t == k)))
both_marked marks i k t low high =
    let set : k < length (slice_set marks i true) = omega (arith, length-set marks i true) in
    marked (slice_set marks i true) k t set ∙ ap (λ (b : Bool). b || (t == k)) (marked marks i t low) ∙ or_assoc (slice_index_or marks t false) (t == i) (t == k)

-- the start and the end of an action
pub turns_marked : (p : Instance) (e : Element) (c : Choice) (place : Place) (start end t : ℕ) (b : Bool) → c ≡ Act place start → end ≡ end_of p e c → (b || ((t == start) || (t == end))) ≡ (b || turns p e c t)
unfolding turns
turns_marked p e c place start end t b is ends = rw (ends, is) refl

-- 0 and the last instant alone
pub ends_marked : (marks : List Bool) (horizon t : ℕ) → marks ≡ replicate (horizon + 1) false → slice_index_or (slice_set (slice_set marks 0 true) horizon true) t false ≡ ((t == 0) || (t == horizon))
ends_marked marks horizon t is =
    let size : length marks ≡ horizon + 1 = rw is (length-replicate {A = Bool} (horizon + 1) false) in
    let none : slice_index_or marks t false ≡ false = rw is (copies_at (horizon + 1) t false) in
    both_marked marks 0 horizon t (omega arith) (omega arith) ∙ ap (λ (b : Bool). b || ((t == 0) || (t == horizon))) none

-- so many items of a list are its first part
pub prefix_is : (n : ℕ) (marks rest : List Bool) → length marks ≡ n → take n (marks ++ rest) ≡ marks
prefix_is n marks rest size = rw (sym size) (take-append_seam marks rest)
