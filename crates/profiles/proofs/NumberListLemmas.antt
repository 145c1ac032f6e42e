-- Lists behind vectors.
use Rattle.profiles.proofs.Prelude.{◌≡◌, ℕ, ◌+◌, ◌<◌, List, [], ◌∷◌, ◌++◌, length, map, get_or, set, replicate, sym, ap, ◌∙◌, arith, get_or-map, length-map, map-append, map-set, replicate-append-replicate}

module _ {A : Type 0} (view : A → List ℕ) where
  -- one list is longer by a number
  pub pushed : (xs : List A) (i number : ℕ) (old new : A) → i < length (map view xs) → get_or xs i old ≡ old → view new ≡ view old ++ number ∷ [] → map view (set xs i new) ≡ set (map view xs) i (get_or (map view xs) i [] ++ number ∷ [])
  pushed xs i number old new within is longer =
      map-set view xs i new ∙ ap (set (map view xs) i) (longer ∙ ap (λ ys. ys ++ number ∷ []) (sym (get_or-map view xs i old [] (omega (arith, within, length-map xs view)) ∙ ap view is)))

  -- one empty list more
  pub one_more : (xs : List A) (count : ℕ) (x : A) → map view xs ≡ replicate count [] → view x ≡ [] → map view (xs ++ x ∷ []) ≡ replicate (count + 1) []
  one_more xs count x all empty = map-append view xs (x ∷ []) ∙ rw (all, empty) (replicate-append-replicate count 1 [])
