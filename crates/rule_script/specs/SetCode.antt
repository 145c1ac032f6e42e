-- Helping only: the tree of a set as numbers in a row, of which the tree is got back.
use Rattle.std.proofs.Common.{◌∙◌, ap, append_assoc, sym}
use Rattle.std.specs.Prelude.{◌≡◌, ℕ, zero, suc, List, [], ◌∷◌, ◌++◌, refl}
use Rattle.std.specs.Coded.{Coded, code_by, coded_list, coded_ℕ}
use Rattle.rule_script.specs.Sets.{Set, named, span, bound, bracket, joined}
use Rattle.rule_script.specs.declared.tokens.Operator.{Operator}
use Rattle.rule_script.specs.declared.tokens.Operator.TheVariants.{Plus, Minus, Both}

abbrev pub sign_number : Operator → ℕ
sign_number Plus = zero
sign_number Minus = suc zero
sign_number Both = suc (suc zero)

abbrev pub sign_of : ℕ → Operator
sign_of zero = Plus
sign_of (suc zero) = Minus
sign_of (suc (suc n)) = Both

pub sign_back : (op : Operator) → sign_of (sign_number op) ≡ op
sign_back Plus = refl
sign_back Minus = refl
sign_back Both = refl

-- the parts of a set before the set
abbrev pub rows : Set → List (List ℕ)
rows (named x) = (zero ∷ x) ∷ []
rows (bound x) = (suc zero ∷ x) ∷ []
rows (span x a b) = (suc (suc zero) ∷ a ∷ b ∷ x) ∷ []
rows (bracket s) = rows s ++ (suc (suc (suc zero)) ∷ []) ∷ []
rows (joined l op r) = rows l ++ (rows r ++ (suc (suc (suc (suc (sign_number op)))) ∷ []) ∷ [])

abbrev pub closed_up : List Set → List Set
closed_up [] = []
closed_up (s ∷ k) = bracket s ∷ k

abbrev pub joined_up : Operator → List Set → List Set
joined_up op [] = []
joined_up op (r ∷ []) = []
joined_up op (r ∷ l ∷ k) = joined l op r ∷ k

abbrev pub with_row : List ℕ → List Set → List Set
with_row [] k = k
with_row (zero ∷ x) k = named x ∷ k
with_row (suc zero ∷ x) k = bound x ∷ k
with_row (suc (suc zero) ∷ []) k = k
with_row (suc (suc zero) ∷ a ∷ []) k = k
with_row (suc (suc zero) ∷ a ∷ b ∷ x) k = span x a b ∷ k
with_row (suc (suc (suc zero)) ∷ x) k = closed_up k
with_row (suc (suc (suc (suc n))) ∷ x) k = joined_up (sign_of n) k

abbrev pub run : List (List ℕ) → List Set → List Set
run [] k = k
run (t ∷ ts) k = run ts (with_row t k)

abbrev pub first_of_all : List Set → Set
first_of_all [] = named []
first_of_all (s ∷ k) = s

pub gives_back : (s : Set) (ts : List (List ℕ)) (k : List Set) → run (rows s ++ ts) k ≡ run ts (s ∷ k)
gives_back (named x) ts k = refl
gives_back (bound x) ts k = refl
gives_back (span x a b) ts k = refl
gives_back (bracket s) ts k = ap (λ (l : List (List ℕ)). run l k) (append_assoc (rows s) _ ts) ∙ gives_back s _ k
gives_back (joined l op r) ts k =
    ap (λ (m : List (List ℕ)). run m k) (append_assoc (rows l) (rows r ++ (suc (suc (suc (suc (sign_number op)))) ∷ []) ∷ []) ts)
    ∙ gives_back l _ k
    ∙ ap (λ (m : List (List ℕ)). run m (l ∷ k)) (append_assoc (rows r) ((suc (suc (suc (suc (sign_number op)))) ∷ []) ∷ []) ts)
    ∙ gives_back r _ (l ∷ k)
    ∙ ap (λ (o : Operator). run ts (joined l o r ∷ k)) (sign_back op)

pub nothing_after : (xs : List (List ℕ)) → xs ++ [] ≡ xs
nothing_after [] = refl
nothing_after (x ∷ xs) = ap (λ (l : List (List ℕ)). x ∷ l) (nothing_after xs)

abbrev pub set_code : Coded Set
set_code =
    code_by
    (List (List ℕ))
    (coded_list (coded_list coded_ℕ))
    rows
    (λ ts. first_of_all (run ts []))
    (λ s. ap (λ (m : List (List ℕ)). first_of_all (run m [])) (sym (nothing_after (rows s))) ∙ ap first_of_all (gives_back s [] []))
