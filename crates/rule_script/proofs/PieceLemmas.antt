-- The first piece of a line: `$` or a name byte with the name bytes after it, or one byte.
use Rattle.base.proofs.Public.{◌≡◌, ◌∙◌, ℕ, ◌+◌, ◌<◌, suc, true, false, ◌||◌, ◌==◌, List, [], ◌∷◌, length, take, drop, refl, ap, arith, inl, inr, cases_Bool, common_steps, prefix_len, slice_index}
use Rattle.rule_script.specs.Tokens.{goes_on_name, goes_with, put_before, pieces}

-- the name bytes at the front
abbrev pub run : List ℕ → ℕ
run bs = prefix_len goes_on_name bs

-- the first piece begins with the first byte
record Begins (x : ℕ) (found : List (List ℕ)) : Type 0 where
  more : List ℕ
  others : List (List ℕ)
  is : found ≡ (x ∷ more) ∷ others

begins_with : (x : ℕ) (ps : List (List ℕ)) → Begins x (put_before x ps)
begins_with x [] = record { more = []; others = []; is = refl }
begins_with x ([] ∷ ps) = record { more = []; others = ps; is = refl }
begins_with x ((y ∷ p) ∷ ps) = elim (cases_Bool (goes_with x y)) [
  | inl joins ↦ record { more = y ∷ p; others = ps; is = rw joins refl }
  | inr parts ↦ record { more = []; others = (y ∷ p) ∷ ps; is = rw parts refl }
]

-- a byte that does not go with the next one is a piece
apart : (b x : ℕ) (found : List (List ℕ)) → Begins x found → goes_with b x ≡ false → put_before b found ≡ (b ∷ []) ∷ found
apart b x found begins parts = rw begins.is (rw parts refl)

joined : (b x : ℕ) (p : List ℕ) (ps : List (List ℕ)) → goes_with b x ≡ true → put_before b ((x ∷ p) ∷ ps) ≡ (b ∷ x ∷ p) ∷ ps
joined b x p ps joins = rw joins refl

one_byte : (b : ℕ) (bs : List ℕ) → ((b == 36) || goes_on_name b) ≡ false → pieces (b ∷ bs) ≡ (b ∷ []) ∷ pieces bs
unfolding pieces
one_byte b [] alone = refl
one_byte b (x ∷ bs) alone = apart b x (put_before x (pieces bs)) (begins_with x (pieces bs)) (rw alone refl)

first_run : (b : ℕ) (bs : List ℕ) → ((b == 36) || goes_on_name b) ≡ true → pieces (b ∷ bs) ≡ (b ∷ take (run bs) bs) ∷ pieces (drop (run bs) bs)
unfolding pieces
first_run b [] leads = refl
first_run b (x ∷ bs) leads = elim (cases_Bool (goes_on_name x)) [
  | inl goes ↦
      let rest : pieces (x ∷ bs) ≡ (x ∷ take (run bs) bs) ∷ pieces (drop (run bs) bs) = first_run x bs (grind (arith, common_steps)) in
      let both : goes_with b x ≡ true = rw (leads, goes) refl in
      let long : run (x ∷ bs) ≡ suc (run bs) = rw goes (omega arith) in
      rw long (ap (put_before b) rest ∙ joined b x (take (run bs) bs) (pieces (drop (run bs) bs)) both)
  | inr stops ↦
      let none : run (x ∷ bs) ≡ 0 = rw stops refl in
      let parts : goes_with b x ≡ false = rw (leads, stops) refl in
      rw none (apart b x (put_before x (pieces bs)) (begins_with x (pieces bs)) parts)
]

-- ---- the same of a list that is not empty

pub piece_alone : (bs : List ℕ) → 0 < length bs → ((slice_index bs 0 == 36) || goes_on_name (slice_index bs 0)) ≡ false → pieces bs ≡ take 1 bs ∷ pieces (drop 1 bs)
piece_alone [] some alone = absurd (omega arith)
piece_alone (b ∷ bs) some alone = one_byte b bs alone

pub piece_run : (bs : List ℕ) → 0 < length bs → ((slice_index bs 0 == 36) || goes_on_name (slice_index bs 0)) ≡ true → pieces bs ≡ take (1 + prefix_len goes_on_name (drop 1 bs)) bs ∷ pieces (drop (1 + prefix_len goes_on_name (drop 1 bs)) bs)
piece_run [] some leads = absurd (omega arith)
piece_run (b ∷ bs) some leads =
    let long : 1 + run bs ≡ suc (run bs) = omega arith in
    rw long (first_run b bs leads)
