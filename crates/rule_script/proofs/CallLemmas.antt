-- The values of several sets, found so far.
use Rattle.std.proofs.lemmas.List.{drop_all}
use Rattle.base.proofs.Public.{◌≡◌, ◌∙◌, ℕ, ◌+◌, ◌<◌, ◌≤◌, ◌++◌, List, [], ◌∷◌, length, drop, drop-cons, get_or, Result, Ok, Err, refl, sym, ap, add-one, append_assoc, append-nil}
use Rattle.rule_script.specs.Answers.{Answers}
use Rattle.rule_script.specs.Calls.{and_then, each_in}
use Rattle.rule_script.specs.Sets.{Set}
use Rattle.rule_script.specs.declared.faults.Mistake.{Mistake}
use Rattle.rule_script.specs.declared.faults.Refusal.{Refusal}
use Rattle.rule_script.specs.declared.faults.Refusal.TheVariants.{Memory, Wrong}

abbrev pub after_these : {A : Type 0} → List A → Result (List A) Mistake → Result (List A) Mistake
after_these found (Ok xs) = Ok (found ++ xs)
after_these found (Err m) = Err m

module _ {A : Type 0} (f : Set → Result A Mistake) where
  longer_by : (found : List A) (x : A) (r : Result (List A) Mistake) → after_these (found ++ x ∷ []) r ≡ after_these found (after_these (x ∷ []) r)
  longer_by found x (Ok xs) = ap (λ (l : List A). Ok l) (append_assoc found (x ∷ []) xs)
  longer_by found x (Err m) = refl

  first_good : (s : Set) (ss : List Set) (x : A) → f s ≡ Ok x → each_in f (s ∷ ss) ≡ after_these (x ∷ []) (each_in f ss)
  unfolding each_in
  first_good s ss x is = rw is (by (each_in f ss))
    where
      by : (r : Result (List A) Mistake) → and_then r (λ xs. Ok (x ∷ xs)) ≡ after_these (x ∷ []) r
      by (Ok xs) = refl
      by (Err m) = refl

  first_wrong : (s : Set) (ss : List Set) (m : Mistake) → f s ≡ Err m → each_in f (s ∷ ss) ≡ Err m
  unfolding each_in
  first_wrong s ss m is = rw is refl

  module _ (ss : List Set) (i : ℕ) (found : List A) (answer : Result (List A) Mistake) (so_far : after_these found (each_in f (drop i ss)) ≡ answer) where
    pub one_more_set : (s : Set) (x : A) → i < length ss → s ≡ get_or ss i s → f s ≡ Ok x → after_these (found ++ x ∷ []) (each_in f (drop (i + 1) ss)) ≡ answer
    one_more_set s x within is good =
        let here : drop i ss ≡ s ∷ drop (i + 1) ss = rw (add-one, drop-cons ss i s, ← is) refl in
        longer_by found x (each_in f (drop (i + 1) ss)) ∙ ap (after_these found) (sym (first_good s (drop (i + 1) ss) x good) ∙ ap (each_in f) (sym here)) ∙ so_far

    pub one_set_wrong : (s : Set) (m : Mistake) → i < length ss → s ≡ get_or ss i s → f s ≡ Err m → answer ≡ Err m
    one_set_wrong s m within is bad =
        let here : drop i ss ≡ s ∷ drop (i + 1) ss = rw (add-one, drop-cons ss i s, ← is) refl in
        sym so_far ∙ ap (after_these found) (ap (each_in f) here ∙ first_wrong s (drop (i + 1) ss) m bad)

    pub set_refused : (s : Set) (r : Refusal) → i < length ss → s ≡ get_or ss i s → Answers {A = A} (Err r) (f s) → Answers {A = List A} (Err r) answer
    set_refused s (Wrong m) within is bad = one_set_wrong s m within is bad
    set_refused s Memory within is bad = tt

    pub all_sets : length ss ≤ i → answer ≡ Ok found
    unfolding each_in
    all_sets past =
        let over : drop i ss ≡ [] = drop_all i ss past in
        let here : each_in f (drop i ss) ≡ Ok [] = rw over refl in
        sym so_far ∙ ap (after_these found) here ∙ ap (λ (l : List A). Ok l) (append-nil found)

pub begins : {A : Type 0} (r : Result (List A) Mistake) → after_these [] r ≡ r
begins (Ok xs) = refl
begins (Err m) = refl

pub ruleset set_rules = (set_refused, begins)
