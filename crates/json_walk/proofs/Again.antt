-- A list that is spelled item by item is read again item by item.
use Rattle.std.proofs.Common.{◌≡◌, ℕ, suc, List, [], ◌∷◌, ◌++◌, length, map, Result, Ok, sym, refl, ap, ◌∙◌, append_assoc, arith}
use Rattle.std.proofs.lemmas.List.{append-nil, length-append}
use Rattle.json_walk.specs.Each.{each}

-- each step adds the next item, read from its spelling, to those before it
abbrev pub Again : {X Y E : Type 0} → (ℕ → List Y → X → Result (List Y) E) → (Y → X) → List Y → List Y → Type 0
Again step spelled done [] = Unit {0}
Again step spelled done (y ∷ ys) = (step (length done) done (spelled y) ≡ Ok (done ++ y ∷ [])) × Again step spelled (done ++ y ∷ []) ys

each-again_from : {X Y E : Type 0} (step : ℕ → List Y → X → Result (List Y) E) (spelled : Y → X) (done ys : List Y) (place : ℕ) → place ≡ length done
    → Again step spelled done ys → each step place done (map spelled ys) ≡ Ok (done ++ ys)
unfolding each
each-again_from step spelled done [] place is h = ap (λ (d : List _). Ok d) (sym (append-nil done))
each-again_from step spelled done (y ∷ ys) place is h =
    let next : suc place ≡ length (done ++ y ∷ []) = omega (arith, length-append done (y ∷ [])) in
    rw (is, h.0) (rw (← is) (each-again_from step spelled (done ++ y ∷ []) ys (suc place) next h.1) ∙ ap (λ (d : List _). Ok d) (append_assoc done (y ∷ []) ys))

pub each-again : {X Y E : Type 0} (step : ℕ → List Y → X → Result (List Y) E) (spelled : Y → X) (ys : List Y) → Again step spelled [] ys → each step 0 [] (map spelled ys) ≡ Ok ys
each-again step spelled ys h = each-again_from step spelled [] ys 0 refl h
