-- Lists that grow by one item: what is kept of them, and what each item gives.
use Rattle.base.proofs.Public.{◌≡◌, ℕ, ◌+◌, ◌<◌, Bool, false, true, List, [], ◌∷◌, ◌++◌, arith, length, refl, sym, ap, ◌∙◌, filter, filter-append, get_or, length-append, map, map-append, range_with_len, take, take_more, range_more}

-- a list of one item, tested
pub filter_pass : {A : Type 0} (test : A → Bool) (a : A) → test a ≡ true → filter test (a ∷ []) ≡ a ∷ []
filter_pass test a pass = rw pass refl

pub filter_fail : {A : Type 0} (test : A → Bool) (a : A) → test a ≡ false → filter test (a ∷ []) ≡ []
filter_fail test a fail = rw fail refl

-- one item more of a list that is gone over: what passes a test
pub filter_more : {A : Type 0} (test : A → Bool) (xs : List A) (i : ℕ) (d : A) (kept new : List A) → kept ≡ filter test (take i xs) → i < length xs → new ≡ kept ++ filter test (get_or xs i d ∷ []) → new ≡ filter test (take (i + 1) xs)
filter_more test xs i d kept new was low step =
    rw (step, was) (sym (ap (filter test) (take_more xs i d low) ∙ filter-append test (take i xs) (get_or xs i d ∷ [])))

-- one number more: how many pass a test
pub length_yes : (test : ℕ → Bool) (n count : ℕ) → count ≡ length (filter test (range_with_len 0 n)) → test n ≡ true → count + 1 ≡ length (filter test (range_with_len 0 (n + 1)))
length_yes test n count was pass =
    let more : filter test (range_with_len 0 (n + 1)) ≡ filter test (range_with_len 0 n) ++ filter test (n ∷ []) = ap (filter test) (range_more n) ∙ filter-append test (range_with_len 0 n) (n ∷ []) in
    rw (more, filter_pass test n pass, length-append) (omega (arith, was))

pub length_no : (test : ℕ → Bool) (n count : ℕ) → count ≡ length (filter test (range_with_len 0 n)) → test n ≡ false → count ≡ length (filter test (range_with_len 0 (n + 1)))
length_no test n count was fail =
    let more : filter test (range_with_len 0 (n + 1)) ≡ filter test (range_with_len 0 n) ++ filter test (n ∷ []) = ap (filter test) (range_more n) ∙ filter-append test (range_with_len 0 n) (n ∷ []) in
    rw (more, filter_fail test n fail, length-append) (omega (arith, was))

-- one number more: what passes a test
pub filter_next : (test : ℕ → Bool) (n : ℕ) (kept new : List ℕ) → kept ≡ filter test (range_with_len 0 n) → new ≡ kept ++ filter test (n ∷ []) → new ≡ filter test (range_with_len 0 (n + 1))
filter_next test n kept new was step =
    rw (step, was) (sym (ap (filter test) (range_more n) ∙ filter-append test (range_with_len 0 n) (n ∷ [])))

-- one item more of a list that is gone over: what is made of each
pub map_more : {A B : Type 0} (f : A → B) (xs : List A) (i : ℕ) (d : A) (made new : List B) → made ≡ map f (take i xs) → i < length xs → new ≡ made ++ f (get_or xs i d) ∷ [] → new ≡ map f (take (i + 1) xs)
map_more f xs i d made new was low step =
    rw (step, was) (sym (ap (map f) (take_more xs i d low) ∙ map-append f (take i xs) (get_or xs i d ∷ [])))

-- one item more at the end
pub map_push : {A B : Type 0} (f : A → B) (xs : List A) (x : A) → map f (xs ++ x ∷ []) ≡ map f xs ++ f x ∷ []
map_push f xs x = map-append f xs (x ∷ [])
