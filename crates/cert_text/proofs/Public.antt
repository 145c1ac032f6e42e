-- What crates above may cite. All else under proofs/ is private.
-- ---- numbers are read from their decimal texts
pub use Rattle.numerals.proofs.Public.{number_of-decimal, decimal-number_of}
-- ---- a reason that names what the instance has can be written
pub use Rattle.cert_text.proofs.StepLemmas.{named_reason}
-- ---- the laws of lines
use Rattle.std.proofs.lemmas.List.{append-nil}
use Rattle.base.proofs.Public.{◌≡◌, ◌∙◌, ℕ, List, [], ◌∷◌, Option, Some, None, refl, sym, ap, join_with_byte-slice_split}
use Rattle.cert_text.specs.Prelude.{all_read, joined, line, line_words, LinesFit, LinesHaveNoNewline, LinesHaveOneReading, LineText, reading, ReadingsAreExact, Spells, StepsAreLines, Word, words_of}
use Rattle.cert_text.proofs.LengthLemmas.{end_line_fits, step_line_fits}
use Rattle.cert_text.proofs.LineLemmas.{line_back, line_only}
use Rattle.cert_text.proofs.StepLemmas.{step_line_is}
use Rattle.cert_text.proofs.SplitLemmas.{no_newline, words_of-line}

whole : (words : List Word) (x : LineText) (found : Option (LineText × List Word)) → line words ≡ found → all_read found ≡ Some x → line words ≡ Some (x, [])
whole words x None is read = absurd (cc)
whole words x (Some (y, [])) is read = let same : y ≡ x = cc in rw same at is
whole words x (Some (y, w ∷ rest)) is read = absurd (cc)

spelled : (bytes : List ℕ) (x : LineText) → reading bytes ≡ Some x → Spells bytes x
unfolding reading
spelled bytes x read =
    let found = line_only (words_of bytes) x [] (whole (words_of bytes) x (line (words_of bytes)) refl read) in
    record {
      line_is = found.1;
      text = sym (join_with_byte-slice_split 32 bytes) ∙ ap joined (found.0 ∙ append-nil (line_words x));
    }

read : (bytes : List ℕ) (x : LineText) → Spells bytes x → reading bytes ≡ Some x
unfolding reading
read bytes x is = rw (is.text, words_of-line x is.line_is, line_back x is.line_is) refl

pub readings_are_exact : ReadingsAreExact
readings_are_exact = record { spelled = spelled; read = read }

pub lines_have_one_reading : LinesHaveOneReading
lines_have_one_reading bytes one other first second =
    let same : Some one ≡ Some other = sym (read bytes one first) ∙ read bytes other second in
    cc

pub steps_are_lines : StepsAreLines
steps_are_lines = step_line_is

pub lines_have_no_newline : LinesHaveNoNewline
lines_have_no_newline = no_newline

pub lines_fit : LinesFit
lines_fit = record { steps = step_line_fits; goals = end_line_fits }
