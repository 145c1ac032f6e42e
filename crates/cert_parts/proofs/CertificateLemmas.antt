-- The lines of a certificate name no part.
use Rattle.base.proofs.Public.{◌≡◌, ◌≢◌, ◌∙◌, inl, inr, ℕ, List, [], ◌∷◌, ◌++◌, append-nil, refl, sym, ap, arith, slice_index, All, All-head, All-tail, AllPass-from_list_all, Contains, flat_map, nat_lt, true}
use Rattle.cert_text.specs.Prelude.{certificate_text, end_line, goal_words, header, HasStep, Instance, IsGoal, IsInstance, IsLine, joined, line_word, line_words, part_words, reason_words, step_line, step_text, Word}
use Rattle.cert_text.specs.Spelling.{header_line}
use Rattle.cert_text.specs.declared.kinds.LineKind.TheVariants.{Cut as TheCut, Decide as TheDecide, End as TheEnd, Fail as TheFail, Left as TheLeft}
use Rattle.cert_text.specs.declared.text.LineText.{LineText}
use Rattle.cert_text.specs.declared.text.LineText.TheVariants.{End, Step as StepLine}
use Rattle.cert_text.specs.declared.text.StepText.TheVariants.{Cut, Decide, Fail, Left, Plan}
use Rattle.cert_text.proofs.Public.{lines_have_no_newline, steps_are_lines}
use Rattle.trees.specs.declared.steps.Goal.{Goal}
use Rattle.trees.specs.declared.steps.Step.{Step}
use Rattle.cert_parts.specs.Cuts.{StartsPart}
use Rattle.cert_parts.specs.Laws.{IsBody}
use Rattle.cert_parts.proofs.LineLemmas.{both_lines, no_part_both, no_part_ended, none_in_nothing}

-- ---- one line

-- words that are joined begin with the first
pub record BeginsWithWord (text word : List ℕ) : Type 0 where
  pub rest : List ℕ
  pub text_is : text ≡ word ++ rest

first_word : (word : Word) (words : List Word) → BeginsWithWord (joined (word ∷ words)) word
first_word word [] = record { rest = []; text_is = sym (append-nil word) }
first_word word (next ∷ words) = record { rest = 32 ∷ joined (next ∷ words); text_is = refl }

-- a byte in which a text differs from `part `
other_first : (text : List ℕ) (b : ℕ) → slice_index text 0 ≡ b → b ≢ 112 → ¬ StartsPart text
other_first text b here other (after, is) = let first : slice_index text 0 ≡ 112 = ap (λ (l : List ℕ). slice_index l 0) is in other (sym here ∙ first)

other_second : (text : List ℕ) (b : ℕ) → slice_index text 1 ≡ b → b ≢ 97 → ¬ StartsPart text
other_second text b here other (after, is) = let second : slice_index text 1 ≡ 97 = ap (λ (l : List ℕ). slice_index l 1) is in other (sym here ∙ second)

other_word : (word : Word) (words : List Word) (b : ℕ) → ((rest : List ℕ) → slice_index (word ++ rest) 0 ≡ b) → b ≢ 112 → ¬ StartsPart (joined (word ∷ words))
other_word word words b here other =
    let first = first_word word words in
    other_first (joined (word ∷ words)) b (ap (λ (l : List ℕ). slice_index l 0) first.text_is ∙ here first.rest) other

names_no_part : (line : LineText) → ¬ StartsPart (joined (line_words line))
unfolding line_word
names_no_part (StepLine (Decide e part)) = other_word (line_word TheDecide) (e ∷ part_words part) 100 (λ rest. refl) (λ same. omega (arith, same))
names_no_part (StepLine (Cut e part reason)) = other_word (line_word TheCut) (e ∷ (part_words part ++ reason_words reason)) 99 (λ rest. refl) (λ same. omega (arith, same))
names_no_part (StepLine (Fail reason)) = other_word (line_word TheFail) (reason_words reason) 102 (λ rest. refl) (λ same. omega (arith, same))
names_no_part (StepLine (Plan cost)) = other_second (joined (line_words (StepLine (Plan cost)))) 108 refl (λ same. omega (arith, same))
names_no_part (StepLine Left) = other_word (line_word TheLeft) [] 108 (λ rest. refl) (λ same. omega (arith, same))
names_no_part (End goal) = other_word (line_word TheEnd) (goal_words goal) 101 (λ rest. refl) (λ same. omega (arith, same))

one_line : (line : LineText) → IsLine line → IsBody (joined (line_words line) ++ 10 ∷ [])
one_line line is = record {
  no_part_line = no_part_ended (joined (line_words line)) (lines_have_no_newline line is) (names_no_part line);
  lines = inr (joined (line_words line), refl);
}

no_newline_in_header : ¬ Contains header 10
no_newline_in_header (k, within, same) =
    let above = AllPass-from_list_all (nat_lt 10) header refl k 10 within in
    let none : nat_lt 10 10 ≡ true = rw same at above in
    absurd (cc)

header_names_none : ¬ StartsPart header
header_names_none = other_first header 98 refl (λ same. omega (arith, same))

header_body : IsBody header_line
unfolding header_line
header_body = record { no_part_line = no_part_ended header no_newline_in_header header_names_none; lines = inr (header, refl) }

-- ---- one after the other

both_bodies : (a b : List ℕ) → IsBody a → IsBody b → IsBody (a ++ b)
both_bodies a b first second = record {
  no_part_line = no_part_both a b first.lines first.no_part_line second.no_part_line;
  lines = both_lines a b first.lines second.lines;
}

steps_body : (p : Instance) → IsInstance p → (steps : List Step) → All (HasStep p) steps → IsBody (flat_map (step_line p) steps)
unfolding step_line
steps_body p is [] all = record { no_part_line = none_in_nothing; lines = inl refl }
steps_body p is (s ∷ steps) all =
    both_bodies (step_line p s) (flat_map (step_line p) steps) (one_line (StepLine (step_text p s)) (steps_are_lines p is s (All-head (HasStep p) s steps all)))
    (steps_body p is steps (All-tail (HasStep p) s steps all))

pub certificate_body : (p : Instance) → IsInstance p → (steps : List Step) → All (HasStep p) steps → (goal : Goal) → IsGoal goal → IsBody (certificate_text p steps goal)
unfolding certificate_text end_line
certificate_body p is steps all goal good =
    both_bodies (header_line ++ flat_map (step_line p) steps) (end_line goal) (both_bodies header_line (flat_map (step_line p) steps) header_body (steps_body p is steps all)) (one_line (End goal) good)
