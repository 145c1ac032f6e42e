-- Texts in two pieces: which of their lines name a part.
use Rattle.std.proofs.lemmas.List.{append-nil}
use Rattle.base.proofs.Public.{◌≡◌, ◌≢◌, inl, inr, ℕ, true, nat_lt, List, [], ◌∷◌, ◌++◌, refl, sym, ap, ◌∙◌, append_assoc, subst, arith, length, length-append, AllPass-from_list_all, Contains, Contains-append_left, Contains-append_right}
use Rattle.cert_parts.specs.Sections.{AreWholeLines, HasPartLine, part_word}
use Rattle.cert_parts.specs.Cuts.{StartsPart}

-- ---- one list in two pieces, twice

-- the first two pieces are these, or the last two
pub data Pieces (a b c d : List ℕ) : Type 0 where
  First : (more : List ℕ) → c ≡ a ++ more → b ≡ more ++ d → Pieces a b c d
  Last : (more : List ℕ) → a ≡ c ++ more → d ≡ more ++ b → Pieces a b c d

longer : (x y : ℕ) (a b c d : List ℕ) → x ≡ y → Pieces a b c d → Pieces (x ∷ a) b (y ∷ c) d
longer x y a b c d same (First more one other) = First more (λ i. sym same i ∷ one i) other
longer x y a b c d same (Last more one other) = Last more (λ i. same i ∷ one i) other

pub pieces : (a b c d : List ℕ) → a ++ b ≡ c ++ d → Pieces a b c d
pieces [] b c d same = First c refl same
pieces (x ∷ a) b [] d same = Last (x ∷ a) refl (sym same)
pieces (x ∷ a) b (y ∷ c) d same =
    let head : x ≡ y = cc in
    let tail : a ++ b ≡ c ++ d = cc in
    longer x y a b c d head (pieces a b c d tail)

pub nothing_behind : (a b : List ℕ) → a ++ b ≡ [] → b ≡ []
nothing_behind [] b same = same
nothing_behind (x ∷ a) b same = absurd (cc)

pub nothing_before : (a b : List ℕ) → a ++ b ≡ [] → a ≡ []
nothing_before [] b same = refl
nothing_before (x ∷ a) b same = absurd (cc)

-- ---- whole lines

end_of_lines : (a u front : List ℕ) → Pieces a u front (10 ∷ []) → AreWholeLines u
end_of_lines a u front (First more one other) = inr (more, other)
end_of_lines a u front (Last [] one other) = inr ([], sym other)
end_of_lines a u front (Last (x ∷ more) one other) = let rest : more ++ u ≡ [] = cc in inl (nothing_behind more u rest)

pub tail_lines : (a u : List ℕ) → AreWholeLines (a ++ u) → AreWholeLines u
tail_lines a u (inl none) = inl (nothing_behind a u none)
tail_lines a u (inr (front, is)) = end_of_lines a u front (pieces a u front (10 ∷ []) is)

pub both_lines : (a b : List ℕ) → AreWholeLines a → AreWholeLines b → AreWholeLines (a ++ b)
both_lines a b lines (inl none) = rw (none, append-nil a) lines
both_lines a b lines (inr (front, is)) = inr (a ++ front, ap (λ (l : List ℕ). a ++ l) is ∙ sym (append_assoc a front (10 ∷ [])))

has_newline : (u : List ℕ) → AreWholeLines u → u ≢ [] → Contains u 10
has_newline u (inl none) some = absurd (some none)
has_newline u (inr (front, is)) some = rw is (Contains-append_right front (10 ∷ []) 10 (0, omega arith, refl))

pub no_newline_in_word : ¬ Contains part_word 10
no_newline_in_word (k, within, same) =
    let above = AllPass-from_list_all (nat_lt 10) part_word refl k 10 within in
    let none : nat_lt 10 10 ≡ true = rw same at above in
    absurd (cc)

-- ---- a line that names a part, in one of two pieces

inside : (u y after : List ℕ) → AreWholeLines u → u ≢ [] → Pieces part_word after u y → StartsPart u
inside u y after lines some (First more one other) = (more, one)
inside u y after lines some (Last more one other) = absurd (no_newline_in_word (subst (λ (l : List ℕ). Contains l 10) (sym one) (Contains-append_left u more 10 (has_newline u lines some))))

-- whole lines that go on as such a line are one
pub starts_inside : (u y after : List ℕ) → AreWholeLines u → u ≢ [] → part_word ++ after ≡ u ++ y → StartsPart u
starts_inside u y after lines some same = inside u y after lines some (pieces part_word after u y same)

pub starts_line : (u : List ℕ) → StartsPart u → HasPartLine u
starts_line u (after, is) = record { before = []; after = after; starts_line = inl refl; text_is = is }

-- after whole lines
pub starts_later : (front u : List ℕ) → AreWholeLines front → StartsPart u → HasPartLine (front ++ u)
starts_later front u lines (after, is) = record { before = front; after = after; starts_line = lines; text_is = ap (λ (l : List ℕ). front ++ l) is }

begun : (x y : List ℕ) (has : HasPartLine (x ++ y)) → AreWholeLines x → ¬ HasPartLine x → ¬ HasPartLine y → Pieces x y has.before (part_word ++ has.after) → ⊥
begun x y has lines first second (First more one other) =
    second (record { before = more; after = has.after; starts_line = tail_lines x more (rw one at has.starts_line); text_is = other })
begun x y has lines first second (Last [] one other) = second (starts_line y (has.after, sym other))
begun x y has lines first second (Last (b ∷ more) one other) =
    let later = tail_lines has.before (b ∷ more) (rw one at lines) in
    first (rw one (starts_later has.before (b ∷ more) has.starts_line (starts_inside (b ∷ more) y has.after later (λ none. cc) other)))

pub no_part_both : (x y : List ℕ) → AreWholeLines x → ¬ HasPartLine x → ¬ HasPartLine y → ¬ HasPartLine (x ++ y)
no_part_both x y lines first second has = begun x y has lines first second (pieces x y has.before (part_word ++ has.after) has.text_is)

pub none_in_nothing : ¬ HasPartLine []
none_in_nothing has = let size = ap length has.text_is in absurd (omega (arith, size, length-append has.before (part_word ++ has.after)))

-- ---- one line

newline_before : (line before more : List ℕ) → AreWholeLines before → before ≢ [] → line ≡ before ++ more → Contains line 10
newline_before line before more lines some is = rw is (Contains-append_left before more 10 (has_newline before lines some))

no_part_at : (line : List ℕ) → ¬ Contains line 10 → ¬ StartsPart line → (before after : List ℕ) → AreWholeLines before → line ≢ before ++ (part_word ++ after)
no_part_at line one not [] after lines is = not (after, is)
no_part_at line one not (b ∷ before) after lines is = one (newline_before line (b ∷ before) (part_word ++ after) lines (λ none. cc) is)

pub no_part_line : (line : List ℕ) → ¬ Contains line 10 → ¬ StartsPart line → ¬ HasPartLine line
no_part_line line one not has = no_part_at line one not has.before has.after has.starts_line has.text_is

-- and its newline
starts_ended : (line after : List ℕ) → ¬ StartsPart line → Pieces part_word after line (10 ∷ []) → ⊥
starts_ended line after not (First more one other) = not (more, one)
starts_ended line after not (Last [] one other) = not ([], sym (append-nil line) ∙ sym one ∙ sym (append-nil part_word))
starts_ended line after not (Last (x ∷ more) one other) =
    let same : x ≡ 10 = cc in
    no_newline_in_word (subst (λ (l : List ℕ). Contains l 10) (sym one) (Contains-append_right line (x ∷ more) 10 (0, omega arith, same)))

ended_at : (line before after : List ℕ) → ¬ Contains line 10 → ¬ StartsPart line → AreWholeLines before → Pieces line (10 ∷ []) before (part_word ++ after) → ⊥
ended_at line before after one not lines (First [] first other) = cc
ended_at line before after one not lines (First (x ∷ more) first other) = let rest : more ++ (part_word ++ after) ≡ [] = cc in let none : part_word ++ after ≡ [] = nothing_behind more (part_word ++ after) rest in cc
ended_at line [] after one not lines (Last more first other) =
    let same : part_word ++ after ≡ line ++ 10 ∷ [] = other ∙ ap (λ (l : List ℕ). l ++ 10 ∷ []) (sym first) in
    starts_ended line after not (pieces part_word after line (10 ∷ []) same)
ended_at line (b ∷ before) after one not lines (Last more first other) = one (newline_before line (b ∷ before) more lines (λ none. cc) first)

pub no_part_ended : (line : List ℕ) → ¬ Contains line 10 → ¬ StartsPart line → ¬ HasPartLine (line ++ 10 ∷ [])
no_part_ended line one not has = ended_at line has.before has.after one not has.starts_line (pieces line (10 ∷ []) has.before (part_word ++ has.after) has.text_is)
