-- What was written is read back.
use Rattle.base.proofs.Public.{◌≡◌, ◌∙◌, ℕ, ◌+◌, ◌<◌, ◌≤◌, ◌==◌, true, false, List, [], ◌∷◌, ◌++◌, length, drop, nat_lt, Some, Ok, refl, sym, ap, arith, add-zero, lit<, lit≤, inl, inr, append_assoc, cases_eq, nat_tests, drop-drop, AllPass-from_list_all, position_or_len_is, drop-append-add, take-append_seam, Contains, flat_map, slice_index_or, length-append}
use Rattle.cert_read.specs.Prelude.{AreWritable, as_line, bytes_before_newline, certificate_text, End, end_at, end_line, first_line_at, Goal, header, header_bytes, header_line, Instance, is_end, IsGoal, IsInstance, IsLine, joined, Line, line_at, line_bytes, line_words, lines_of, LineText, max_line, Over, Position, position_after, reading, ReadsOn, start, Step as StepLine, step_line, step_text, text_at, turn}
use Rattle.trees.specs.declared.steps.Step.{Step}
use Rattle.cert_text.specs.declared.text.LineText.TheVariants.{Step as StepText, End as EndText}
use Rattle.cert_text.proofs.Public.{lines_fit, lines_have_no_newline, readings_are_exact, steps_are_lines}
use Rattle.cert_read.proofs.{LineLemmas.nothing_left, NewlineLemmas.before_both, NewlineLemmas.step_by, TurnLemmas.turn_goes_on, TurnLemmas.turn_is_end}

-- ---- one line

-- bytes without a newline
all_before : (text : List ℕ) → ¬ Contains text 10 → bytes_before_newline text ≡ length text
unfolding bytes_before_newline
all_before text none =
    position_or_len_is (λ b. b == 10) text (length text) 10 (omega arith)
    (λ k within. elim (cases_eq (slice_index_or text k 10) 10) [ inl same ↦ absurd (none (k, within, same)) | inr other ↦ grind (arith, nat_tests) ])
    (λ within. absurd (omega arith))

-- such bytes before a newline are a line
line_bytes-text : (n : ℕ) (text rest : List ℕ) → ¬ Contains text 10 → length text ≤ max_line → line_bytes n (text ++ 10 ∷ rest) ≡ Ok text
unfolding line_bytes
line_bytes-text n text rest none few =
    let here : bytes_before_newline (10 ∷ rest) ≡ 0 = step_by 10 rest true refl in
    let count : bytes_before_newline (text ++ 10 ∷ rest) ≡ length text = before_both text (10 ∷ rest) (all_before text none) ∙ ap (λ (k : ℕ). length text + k) here ∙ add-zero (length text) in
    let some : length text < length (text ++ 10 ∷ rest) = omega (arith, length-append text (10 ∷ rest)) in
    let long : nat_lt max_line (length text) ≡ false = grind (arith, nat_tests) in
    let there : nat_lt (length text) (length (text ++ 10 ∷ rest)) ≡ true = grind (arith, nat_tests) in
    rw (count, long, there, take-append_seam text (10 ∷ rest)) refl

abbrev text_of : LineText → List ℕ
text_of line = joined (line_words line)

line_read : (file : List ℕ) (at : Position) (line : LineText) (rest : List ℕ) → IsLine line → length (text_of line) ≤ max_line → drop at.place file ≡ text_of line ++ 10 ∷ rest →
    line_at file at ≡ Ok (as_line line, position_after at (length (text_of line)) (is_end line))
unfolding line_at text_at
line_read file at line rest is few left =
    let bytes : line_bytes (at.lines + 1) (drop at.place file) ≡ Ok (text_of line) = ap (line_bytes (at.lines + 1)) left ∙ line_bytes-text (at.lines + 1) (text_of line) rest (lines_have_no_newline line is) few in
    let read : reading (text_of line) ≡ Some line = readings_are_exact.read (text_of line) line (record { line_is = is; text = refl }) in
    rw (bytes, read) refl

-- and what is left after it
left_after : (file text rest : List ℕ) (place : ℕ) → drop place file ≡ text ++ 10 ∷ rest → drop (place + length text + 1) file ≡ rest
left_after file text rest place left =
    ap (λ (k : ℕ). drop k file) (omega arith) ∙ sym (drop-drop (length text + 1) place file) ∙ ap (drop (length text + 1)) left ∙ drop-append-add text (10 ∷ rest) 1

turn_read : (file : List ℕ) (at : Position) (line : LineText) (rest : List ℕ) → at.ended ≡ false → 0 < at.lines → IsLine line → length (text_of line) ≤ max_line → drop at.place file ≡ text_of line ++ 10 ∷ rest →
    turn file at ≡ Ok (as_line line, position_after at (length (text_of line)) (is_end line))
turn_read file at line rest goes_on later is few left =
    let test : (at.lines == 0) ≡ false = grind (arith, nat_tests) in
    turn_goes_on file at false goes_on test ∙ line_read file at line rest is few left

-- ---- the lines after the header

after_header : (p : Instance) → IsInstance p → (steps : List Step) → AreWritable p steps → (goal : Goal) → IsGoal goal → (file : List ℕ) (at : Position) → at.ended ≡ false → 0 < at.lines →
    drop at.place file ≡ flat_map (step_line p) steps ++ end_line goal → ReadsOn file at (lines_of p steps goal)
unfolding end_at end_line step_line
after_header p is [] writable goal good file at goes_on later left =
    let fits = lines_fit.goals goal good in
    let after = position_after at (length (text_of (EndText goal))) true in
    (after, turn_read file at (EndText goal) [] goes_on later good fits left, (after, turn_is_end file after refl ∙ nothing_left after (drop after.place file) (ap length (left_after file (text_of (EndText goal)) [] at.place left)), tt))
after_header p is (s ∷ steps) writable goal good file at goes_on later left =
    let line = StepText (step_text p s) in
    let fits = lines_fit.steps p is s writable.0 in
    let rest = flat_map (step_line p) steps ++ end_line goal in
    let apart : drop at.place file ≡ text_of line ++ 10 ∷ rest = left ∙ append_assoc (text_of line ++ 10 ∷ []) (flat_map (step_line p) steps) (end_line goal) ∙ append_assoc (text_of line) (10 ∷ []) rest in
    let after = position_after at (length (text_of line)) false in (
      after,
      turn_read file at line rest goes_on later (steps_are_lines p is s writable.0) fits apart,
      after_header p is steps writable.1 goal good file after refl (omega arith) (left_after file (text_of line) rest at.place apart),
    )

-- ---- the header

no_newline_in_header : ¬ Contains header 10
no_newline_in_header (k, within, same) =
    let above = AllPass-from_list_all (nat_lt 10) header refl k 10 within in
    let none : nat_lt 10 10 ≡ true = rw same at above in
    absurd (cc)

abbrev second : Position
second = position_after start 21 false

header_passes : (file rest : List ℕ) → file ≡ header ++ 10 ∷ rest → turn file start ≡ turn file second
unfolding first_line_at header_bytes
header_passes file rest is =
    let bytes : line_bytes 1 file ≡ Ok header = ap (line_bytes 1) is ∙ line_bytes-text 1 header rest no_newline_in_header (lit≤ tt) in
    turn_goes_on file start true refl refl ∙ rw bytes refl ∙ sym (turn_goes_on file second false refl refl)

from_start : (file rest : List ℕ) (line : Line) (lines : List Line) → file ≡ header ++ 10 ∷ rest → ReadsOn file second (line ∷ lines) → ReadsOn file start (line ∷ lines)
from_start file rest line lines is reads = (reads.0, header_passes file rest is ∙ reads.1, reads.2)

text_apart : (p : Instance) (steps : List Step) (goal : Goal) → certificate_text p steps goal ≡ header ++ 10 ∷ (flat_map (step_line p) steps ++ end_line goal)
unfolding certificate_text header_line
text_apart p steps goal = append_assoc header_line (flat_map (step_line p) steps) (end_line goal)

after_second : (p : Instance) (steps : List Step) (goal : Goal) → drop second.place (certificate_text p steps goal) ≡ flat_map (step_line p) steps ++ end_line goal
after_second p steps goal = left_after (certificate_text p steps goal) header (flat_map (step_line p) steps ++ end_line goal) 0 (text_apart p steps goal)

pub read_back : (p : Instance) → IsInstance p → (steps : List Step) → AreWritable p steps → (goal : Goal) → IsGoal goal → ReadsOn (certificate_text p steps goal) start (lines_of p steps goal)
read_back p is [] writable goal good =
    let apart = text_apart p [] goal in
    from_start (certificate_text p [] goal) _ (End goal) (Over ∷ []) apart (after_header p is [] writable goal good (certificate_text p [] goal) second refl (lit< tt) (after_second p [] goal))
read_back p is (s ∷ steps) writable goal good =
    let apart = text_apart p (s ∷ steps) goal in
    from_start (certificate_text p (s ∷ steps) goal) _ (StepLine (step_text p s)) (lines_of p steps goal) apart
    (after_header p is (s ∷ steps) writable goal good (certificate_text p (s ∷ steps) goal) second refl (lit< tt) (after_second p (s ∷ steps) goal))
