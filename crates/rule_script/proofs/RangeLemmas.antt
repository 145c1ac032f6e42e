-- The five tokens before the `]` of a range.
use Rattle.base.proofs.Public.{◌≡◌, ◌≢◌, List, [], ◌∷◌, length, get_or, Option, None, refl, arith}
use Rattle.rule_script.specs.Tokens.{range_in, range_of}
use Rattle.rule_script.specs.declared.tokens.Token.{Token}

pub five_read : (ts : List Token) (x opens a colon b : Token) (found : Option Token) → length ts ≡ 5 → x ≡ get_or ts 0 x → opens ≡ get_or ts 1 opens → a ≡ get_or ts 2 a → colon ≡ get_or ts 3 colon → b ≡ get_or ts 4 b → found ≡ range_of x opens a colon b → found ≡ range_in ts
unfolding range_in
five_read [] x o a c b found long _ _ _ _ _ is = absurd (omega arith)
five_read (t0 ∷ []) x o a c b found long _ _ _ _ _ is = absurd (omega arith)
five_read (t0 ∷ t1 ∷ []) x o a c b found long _ _ _ _ _ is = absurd (omega arith)
five_read (t0 ∷ t1 ∷ t2 ∷ []) x o a c b found long _ _ _ _ _ is = absurd (omega arith)
five_read (t0 ∷ t1 ∷ t2 ∷ t3 ∷ []) x o a c b found long _ _ _ _ _ is = absurd (omega arith)
five_read (t0 ∷ t1 ∷ t2 ∷ t3 ∷ t4 ∷ []) x o a c b found long is0 is1 is2 is3 is4 is = rw (← is0, ← is1, ← is2, ← is3, ← is4) is
five_read (t0 ∷ t1 ∷ t2 ∷ t3 ∷ t4 ∷ t5 ∷ ts) x o a c b found long _ _ _ _ _ is = absurd (omega arith)

pub not_five : (ts : List Token) → length ts ≢ 5 → None ≡ range_in ts
unfolding range_in
not_five [] other = refl
not_five (t0 ∷ []) other = refl
not_five (t0 ∷ t1 ∷ []) other = refl
not_five (t0 ∷ t1 ∷ t2 ∷ []) other = refl
not_five (t0 ∷ t1 ∷ t2 ∷ t3 ∷ []) other = refl
not_five (t0 ∷ t1 ∷ t2 ∷ t3 ∷ t4 ∷ []) other = absurd (other (omega arith))
not_five (t0 ∷ t1 ∷ t2 ∷ t3 ∷ t4 ∷ t5 ∷ ts) other = refl
