-- A text that grows by what each item of a list gives.
use Rattle.base.proofs.Public.{◌≡◌, ℕ, ◌+◌, ◌<◌, List, [], ◌∷◌, ◌++◌, length, ap, ◌∙◌, append_assoc, append-nil, flat_map, flat_map-append, get_or, take, take_more}

-- one item more
one_more : {A B : Type 0} (f : A → List B) (xs : List A) (i : ℕ) (d : A) → i < length xs → flat_map f (take (i + 1) xs) ≡ flat_map f (take i xs) ++ f (get_or xs i d)
one_more f xs i d low =
    ap (flat_map f) (take_more xs i d low) ∙ flat_map-append f (take i xs) (get_or xs i d ∷ []) ∙ ap (λ (l : List _). flat_map f (take i xs) ++ l) (append-nil (f (get_or xs i d)))

-- the same of a text that has a start
pub flat_more : {A B : Type 0} (f : A → List B) (xs : List A) (i : ℕ) (d : A) (start now new : List B) → now ≡ start ++ flat_map f (take i xs) → i < length xs → new ≡ now ++ f (get_or xs i d) → new ≡ start ++ flat_map f (take (i + 1) xs)
flat_more f xs i d start now new was low step =
    rw (step, was, one_more f xs i d low) (append_assoc start (flat_map f (take i xs)) (f (get_or xs i d)))
