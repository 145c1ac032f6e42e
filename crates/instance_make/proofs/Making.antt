-- A list that is spelled item by item is read again, whatever is made of it.
use Rattle.std.proofs.Common.{map, Result}
use Rattle.std.proofs.lemmas.List.{append-nil}
use Rattle.base.proofs.Public.{◌≡◌, ℕ, suc, Bool, true, false, List, [], ◌∷◌, ◌++◌, length, Option, Some, None, is_some, replicate, Ok, true≢false, refl, sym, ap, ◌∙◌, append_assoc, arith, and_from, length-append, list_all, list_any}
use Rattle.instance_make.specs.Prelude.{each}

-- ---- lists

made_from : {X Y A E : Type 0} (step : ℕ → A → X → Result A E) (made : List Y → A) (spelled : Y → X) (all : List Y)
    → ((done : List Y) (y : Y) (rest : List Y) → done ++ y ∷ rest ≡ all → step (length done) (made done) (spelled y) ≡ Ok (made (done ++ y ∷ [])))
    → (done ys : List Y) (place : ℕ) → place ≡ length done → done ++ ys ≡ all → each step place (made done) (map spelled ys) ≡ Ok (made all)
unfolding each
made_from step made spelled all h done [] place is whole = ap (λ (l : List _). Ok (made l)) (sym (append-nil done) ∙ whole)
made_from step made spelled all h done (y ∷ ys) place is whole =
    let next : suc (length done) ≡ length (done ++ y ∷ []) = omega (arith, length-append done (y ∷ [])) in
    rw (is, h done y ys whole) (made_from step made spelled all h (done ++ y ∷ []) ys (suc (length done)) next (append_assoc done (y ∷ []) ys ∙ whole))

-- what each step makes of the items so far, where each item is read from its spelling
pub each_made : {X Y A E : Type 0} (step : ℕ → A → X → Result A E) (made : List Y → A) (spelled : Y → X) (all : List Y)
    → ((done : List Y) (y : Y) (rest : List Y) → done ++ y ∷ rest ≡ all → step (length done) (made done) (spelled y) ≡ Ok (made (done ++ y ∷ [])))
    → each step 0 (made []) (map spelled all) ≡ Ok (made all)
each_made step made spelled all h = made_from step made spelled all h [] all 0 refl refl

pub list_all_of : {X : Type 0} (test : X → Bool) (xs : List X) → ((x : X) → test x ≡ true) → list_all test xs ≡ true
list_all_of test [] h = refl
list_all_of test (x ∷ xs) h = and_from _ _ (h x) (list_all_of test xs h)

pub all_none : {X : Type 0} (xs : List (Option X)) → list_any is_some xs ≡ false → xs ≡ replicate (length xs) None
all_none [] none = refl
all_none (None ∷ xs) none = ap (λ (ys : List (Option _)). None ∷ ys) (all_none xs none)
all_none (Some x ∷ xs) none = absurd (true≢false none)
