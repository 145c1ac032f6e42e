-- What is known of names that are given and used.
use Rattle.base.proofs.Public.{◌≡◌, ℕ, ◌<◌, ◌++◌, ◌||◌, Bool, not, List, [], ◌∷◌, length, Some, true, false, arith, refl, ap, ◌∙◌, and_from, nat_list_eq_equiv, common_steps, list_any-append, list_any, position, bytes_eq, position-Some}
use Rattle.cluster.specs.Inventory.{are_distinct}

-- names that differ, with one more that is not among them
pub distinct_more : (xs : List (List ℕ)) (n : List ℕ) → are_distinct xs ≡ true → list_any (bytes_eq n) xs ≡ false → are_distinct (xs ++ n ∷ []) ≡ true
distinct_more [] n all new = refl
distinct_more (x ∷ xs) n all new =
    let here : list_any (bytes_eq x) xs ≡ false = grind (arith, common_steps) in
    let rest : are_distinct xs ≡ true = grind (arith, common_steps) in
    let apart : bytes_eq n x ≡ false = grind (arith, common_steps) in
    let later : list_any (bytes_eq n) xs ≡ false = grind (arith, common_steps) in
    and_from _ _ (ap not (list_any-append (bytes_eq x) xs (n ∷ []) ∙ neither here (nat_list_eq_equiv.symm x n ∙ apart))) (distinct_more xs n rest later)
  where
    neither : {a b : Bool} → a ≡ false → b ≡ false → (a || (b || false)) ≡ false
    neither h k = grind (arith, common_steps)

pub place_below : (name : List ℕ) (xs : List (List ℕ)) (r : ℕ) → position (bytes_eq name) xs ≡ Some r → r < length xs
place_below name xs r is = (position-Some (bytes_eq name) xs r [] is).0
