-- What the calls on lines find: a newline, the number of a part, and the bytes before the next section.
use Rattle.std.proofs.lemmas.List.{nil_from_length}
use Rattle.std.proofs.lemmas.List.Quantifiers.{position-Some}
use Rattle.std.proofs.Math.Seq.{split_at}
use Rattle.base.proofs.Public.{◌≡◌, ◌≢◌, ◌⊎◌, inl, inr, ℕ, suc, ◌+◌, ◌-◌, ◌<◌, ◌≤◌, ◌^◌, ◌==◌, Bool, true, false, not, List, [], ◌∷◌, ◌++◌, append-nil, add-one, length, take, drop, get_or, Option, Some, None, MatchOption, refl, sym, ap, ◌∙◌, append_assoc, arith, cases_lt, common_steps, Contains, decimal, fails_before_first, get_or-take, length-append, length-take, nat_tests, position, position_or_len, take-append_seam}
use Rattle.numerals.proofs.Public.{decimal-number_of, number_of-decimal}
use Rattle.numerals.specs.Numbers.{number_of}
use Rattle.cert_parts.specs.Sections.{AreWholeLines, HasPartLine, part_line, part_word}
use Rattle.cert_parts.specs.Cuts.{SplitsBody, SplitsLine, StartsPart}
use Rattle.cert_parts.proofs.SectionLemmas.{parted_by}
use Rattle.cert_parts.proofs.LineLemmas.{both_lines, none_in_nothing, no_part_both, no_part_ended, no_part_line}

-- ---- the first newline

is_newline : (b : ℕ) → (b == 10) ≡ true → b ≡ 10
is_newline b is = grind (arith, nat_tests)

fails_at : (bytes : List ℕ) (k d : ℕ) → (get_or bytes k d == 10) ≡ false → get_or bytes k d ≢ 10
fails_at bytes k d fail same = grind (arith, nat_tests)

none_before : (bytes : List ℕ) (at : ℕ) → ((k : ℕ) → k < at → (get_or bytes k 10 == 10) ≡ false) → ¬ Contains (take at bytes) 10
none_before bytes at fails (k, within, same) =
    let before : k < at = omega (arith, within, length-take at bytes) in
    fails_at bytes k 10 (fails k before) (sym (get_or-take at bytes k 10 before) ∙ same)

pub line_found : (bytes : List ℕ) (at : ℕ) → position (λ b. b == 10) bytes ≡ Some at → SplitsLine bytes (take at bytes) (drop (at + 1) bytes)
line_found bytes at is =
    let found = position-Some (λ b. b == 10) bytes at 10 is in
    let here = is_newline (get_or bytes at 10) found.1 in
    record {
      one = none_before bytes at found.2;
      text = inl (split_at bytes at 10 found.0 ∙ ap (λ (b : ℕ). take at bytes ++ b ∷ drop (suc at) bytes) here ∙ ap (λ (k : ℕ). take at bytes ++ 10 ∷ drop k bytes) (sym (add-one at)));
    }

pub found_within : (bytes : List ℕ) (at : ℕ) → position (λ b. b == 10) bytes ≡ Some at → at < length bytes
found_within bytes at is = (position-Some (λ b. b == 10) bytes at 10 is).0

all_before : (bytes : List ℕ) → position (λ b. b == 10) bytes ≡ None → length bytes ≤ position_or_len (λ b. b == 10) bytes
all_before bytes is =
    elim (cases_lt (position_or_len (λ b. b == 10) bytes) (length bytes)) [
      | inl within ↦ grind (arith, nat_tests, common_steps)
      | inr past ↦ past
    ]

pub line_unended : (bytes rest : List ℕ) → position (λ b. b == 10) bytes ≡ None → rest ≡ [] → SplitsLine bytes bytes rest
line_unended bytes rest is none = record {
  one = λ there.
      let before = all_before bytes is in
      let first : there.0 < position_or_len (λ b. b == 10) bytes = omega (arith, there.1, before) in
      fails_at bytes there.0 10 (fails_before_first (λ b. b == 10) bytes there.0 10 first) there.2;
  text = inr (refl, none);
}

pub ruleset newline_rules = (line_found, found_within, line_unended)

-- whether something is left
pub some_left : (rest : List ℕ) (test : Bool) → test ≡ (length rest == 0) → test ≡ false → rest ≢ []
some_left rest test is fails none = let size : length rest ≡ 0 = ap length none in grind (arith, nat_tests)

pub none_left : (rest : List ℕ) (test : Bool) → test ≡ (length rest == 0) → test ≡ true → rest ≡ []
none_left rest test is passes = nil_from_length rest (grind (arith, nat_tests))

-- ---- the number of a part

pub names_none : (line : List ℕ) → ¬ StartsPart line → (part : ℕ) → line ≢ part_line part
unfolding part_line
names_none line not part same = not (decimal part, same)

pub names_part : (line word : List ℕ) (found : Option ℕ) → line ≡ part_word ++ word → found ≡ number_of word → MatchOption found ((part : ℕ) → part < 2 ^ 64 → line ≢ part_line part) (λ part. line ≡ part_line part)
unfolding part_line
names_part line word None is read = λ part small same.
    let digits : word ≡ decimal part = cc in
    let number : number_of word ≡ Some part = ap number_of digits ∙ number_of-decimal part small in
    cc
names_part line word (Some part) is read = is ∙ ap (λ (w : List ℕ). part_word ++ w) (decimal-number_of word part (sym read)).0

pub ruleset number_rules = (names_none, names_part)

-- ---- the bytes before the next section

-- the bytes that were gone over: lines, none of which names a part
pub record IsGoneOver (bytes rest : List ℕ) : Type 0 where
  pub front : List ℕ
  pub text : bytes ≡ front ++ rest
  pub no_part_line : ¬ HasPartLine front
  pub lines : (rest ≡ []) ⊎ AreWholeLines front

pub gone_none : (bytes : List ℕ) → IsGoneOver bytes bytes
gone_none bytes = record { front = []; text = refl; no_part_line = none_in_nothing; lines = inr (inl refl) }

starts_more : (line after rest : List ℕ) → rest ≡ line ++ after → ¬ StartsPart rest → ¬ StartsPart line
starts_more line after rest is not (more, starts) = not (more ++ after, is ∙ ap (λ (l : List ℕ). l ++ after) starts ∙ append_assoc part_word more after)

still_lines : (front rest : List ℕ) → rest ≢ [] → ((rest ≡ []) ⊎ AreWholeLines front) → AreWholeLines front
still_lines front rest some (inl none) = absurd (some none)
still_lines front rest some (inr lines) = lines

pub gone_more : (bytes rest line after : List ℕ) → IsGoneOver bytes rest → rest ≢ [] → ¬ StartsPart rest → SplitsLine rest line after → IsGoneOver bytes after
gone_more bytes rest line after gone some not split = by split.text
  where
    lines : AreWholeLines gone.front
    lines = still_lines gone.front rest some gone.lines

    by : ((rest ≡ line ++ 10 ∷ after) ⊎ ((rest ≡ line) × (after ≡ []))) → IsGoneOver bytes after
    by (inl ended) = record {
      front = gone.front ++ (line ++ 10 ∷ []);
      text = gone.text ∙ ap (λ (l : List ℕ). gone.front ++ l) (ended ∙ sym (append_assoc line (10 ∷ []) after)) ∙ sym (append_assoc gone.front (line ++ 10 ∷ []) after);
      no_part_line = no_part_both gone.front (line ++ 10 ∷ []) lines gone.no_part_line (no_part_ended line split.one (starts_more line (10 ∷ after) rest ended not));
      lines = inr (both_lines gone.front (line ++ 10 ∷ []) lines (inr (line, refl)));
    }
    by (inr unended) = record {
      front = gone.front ++ line;
      text = gone.text ∙ ap (λ (l : List ℕ). gone.front ++ l) unended.0 ∙ sym (append-nil (gone.front ++ line)) ∙ ap (λ (l : List ℕ). (gone.front ++ line) ++ l) (sym unended.1);
      no_part_line = no_part_both gone.front line lines gone.no_part_line (no_part_line line split.one (starts_more line [] rest (unended.0 ∙ sym (append-nil line)) not));
      lines = inl unended.1;
    }

pub after_shorter : (rest line after : List ℕ) → rest ≢ [] → SplitsLine rest line after → length after < length rest
after_shorter rest line after some split = by rest some split.text
  where
    by : (rest : List ℕ) → rest ≢ [] → ((rest ≡ line ++ 10 ∷ after) ⊎ ((rest ≡ line) × (after ≡ []))) → length after < length rest
    by rest some (inl ended) = omega (arith, ap length ended, length-append line (10 ∷ after))
    by [] some (inr unended) = absurd (some refl)
    by (x ∷ rest) some (inr unended) = omega (arith, ap length unended.1)

pub gone_within : (bytes rest : List ℕ) → IsGoneOver bytes rest → length rest ≤ length bytes
gone_within bytes rest gone = omega (arith, ap length gone.text, length-append gone.front rest)

front_taken : (bytes front rest : List ℕ) → bytes ≡ front ++ rest → take (length bytes - length rest) bytes ≡ front
front_taken bytes front rest is =
    let size : length bytes - length rest ≡ length front = omega (arith, ap length is, length-append front rest) in
    rw (size, is) (take-append_seam front rest)

-- and they are the section's
pub gone_all : (bytes rest body : List ℕ) → IsGoneOver bytes rest → (rest ≡ []) ⊎ StartsPart rest → body ≡ take (length bytes - length rest) bytes → SplitsBody bytes body rest
gone_all bytes rest body gone starts is =
    let front : body ≡ gone.front = is ∙ front_taken bytes gone.front rest gone.text in
    rw front (record { text = gone.text; no_part_line = gone.no_part_line; parted = parted_by gone.front rest gone.lines starts })

pub ruleset gone_rules = (gone_none, gone_more, gone_all, after_shorter, gone_within)
