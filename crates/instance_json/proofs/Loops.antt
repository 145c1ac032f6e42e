-- A loop that fills places from the first one on does what `map_walk` says.
use Rattle.std.proofs.Common.{slice_set, Err}
use Rattle.std.proofs.lemmas.List.{append-nil}
use Rattle.base.proofs.Public.{◌≡◌, ℕ, zero, suc, ◌+◌, ◌<◌, ◌≤◌, List, [], ◌∷◌, ◌++◌, length, take, drop, get_or, add-one, Option, Some, None, Ok, refl, sym, ap, ◌∙◌, arith, append_assoc, take-suc-set, get_or_default}
use Rattle.instance_json.specs.Prelude.{Fails, InstanceFault, map_walk, Walk, ◌>>=◌}

-- the places before one are what the test gives of the items before it
abbrev pub Fills : {X A : Type 0} → (X → Walk A) → List X → ℕ → List A → Type 0
Fills test xs i out = (map_walk test (drop i xs) >>= λ rest. Ok (take i out ++ rest)) ≡ map_walk test xs

here : {X : Type 0} (xs : List X) (i : ℕ) (x : X) → i < length xs → x ≡ get_or xs i x → drop i xs ≡ x ∷ drop (suc i) xs
here [] i x lt is = absurd (omega arith)
here (y ∷ ys) zero x lt is = ap (λ (z : _). z ∷ ys) (sym is)
here (y ∷ ys) (suc i) x lt is = here ys i x (omega arith) is

joined : {A : Type 0} (front : List A) (y : A) (r : Walk (List A)) → (r >>= λ rest. Ok ((front ++ y ∷ []) ++ rest)) ≡ ((r >>= λ ys. Ok (y ∷ ys)) >>= λ rest. Ok (front ++ rest))
joined front y (Ok ys) = ap Ok (append_assoc front (y ∷ []) ys)
joined front y (Err e) = refl

pub fills_more : {X A : Type 0} (test : X → Walk A) (xs : List X) (i : ℕ) (out : List A) (x : X) (y : A)
    → i < length xs → i < length out → x ≡ get_or xs i x → Fills test xs i out → test x ≡ Ok y → Fills test xs (i + 1) (slice_set out i y)
unfolding map_walk
fills_more test xs i out x y lt within is so_far made =
    rw (add-one, take-suc-set out i y within)
    (joined (take i out) y (map_walk test (drop (suc i) xs)) ∙ sym (ap (λ l. map_walk test l >>= λ rest. Ok (take i out ++ rest)) (here xs i x lt is) ∙ rw made refl) ∙ so_far)

past : {X : Type 0} (xs : List X) (i : ℕ) → length xs ≤ i → drop i xs ≡ []
past [] zero le = refl
past [] (suc i) le = refl
past (x ∷ xs) zero le = absurd (omega arith)
past (x ∷ xs) (suc i) le = past xs i (omega arith)

pub fills_all : {X A : Type 0} (test : X → Walk A) (xs : List X) (i : ℕ) (out : List A) → length xs ≤ i → Fills test xs i out → map_walk test xs ≡ Ok (take i out)
unfolding map_walk
fills_all test xs i out le so_far = sym so_far ∙ ap (λ l. map_walk test l >>= λ rest. Ok (take i out ++ rest)) (past xs i le) ∙ ap Ok (append-nil (take i out))

-- where an item has a fault, the whole has it; no fault is named where memory ran out
pub fill_fails : {X A : Type 0} (test : X → Walk A) (xs : List X) (i : ℕ) (out : List A) (x : X) (fault : Option InstanceFault)
    → i < length xs → x ≡ get_or xs i x → Fills test xs i out → Fails fault (test x) → Fails fault (map_walk test xs)
unfolding map_walk
fill_fails test xs i out x None lt is so_far h = tt
fill_fails test xs i out x (Some f) lt is so_far h =
    sym so_far ∙ ap (λ l. map_walk test l >>= λ rest. Ok (take i out ++ rest)) (here xs i x lt is) ∙ rw h refl

-- what follows a fault has it
pub fails_then : {A B : Type 0} (r : Walk A) (next : A → Walk B) (fault : Option InstanceFault) → Fails fault r → Fails fault (r >>= next)
fails_then r next None h = tt
fails_then r next (Some f) h = rw h refl

-- ---- the same over a list of small values, each of which a loop reads with some default

pub fills_more_at : {X A : Type 0} (test : X → Walk A) (xs : List X) (i : ℕ) (out : List A) (d : X) (y : A)
    → i < length xs → i < length out → Fills test xs i out → test (get_or xs i d) ≡ Ok y → Fills test xs (i + 1) (slice_set out i y)
fills_more_at test xs i out d y lt within so_far made = fills_more test xs i out (get_or xs i d) y lt within (get_or_default xs i d (get_or xs i d) lt) so_far made

pub fill_fails_at : {X A : Type 0} (test : X → Walk A) (xs : List X) (i : ℕ) (out : List A) (d : X) (fault : Option InstanceFault)
    → i < length xs → Fills test xs i out → Fails fault (test (get_or xs i d)) → Fails fault (map_walk test xs)
fill_fails_at test xs i out d fault lt so_far h = fill_fails test xs i out (get_or xs i d) fault lt (get_or_default xs i d (get_or xs i d) lt) so_far h
