-- Two texts that were written into two files.
use Rattle.base.proofs.Public.{◌≡◌, ◌≢◌, ◌⊎◌, ◌∙◌, List, ℕ, Option, Some, Result, Ok, Err, OnOk, sym, refl, inl, inr, subst, StartsWith}
use Rattle.command_frame.specs.Prelude.{AreTextsCut, bytes_of, Files, HasTexts, IsCut, OthersStay, RestStays}

-- no third file changes
pub rest_of_both : (first second : List ℕ) (before between after : Files) → OthersStay first before between → OthersStay second between after → RestStays second first before after
rest_of_both first second before between after one then = λ name not_second not_first. then name not_second ∙ one name not_first

-- both were written, where nothing was refused
pub has_texts : {T E : Type 0} (first first_text second second_text : List ℕ) (before between after : Files) (result : Result T E) → first ≢ second → between first ≡ Some first_text → OthersStay first before between → OnOk result (after second ≡ Some second_text) → OthersStay second between after →
    OnOk result (HasTexts first first_text second second_text before after)
has_texts first first_text second second_text before between after (Ok x) apart whole one second_whole then =
    record { first_whole = then first apart ∙ whole; second_whole = second_whole; others = rest_of_both first second before between after one then }
has_texts first first_text second second_text before between after (Err e) apart whole one second_whole then = tt

-- none was touched
pub cut_in_none : (first first_text second second_text : List ℕ) (files : Files) → AreTextsCut first first_text second second_text files files
cut_in_none first first_text second second_text files = record { first_cut = inl refl; second_cut = inl refl; others = λ name not_second not_first. refl }

-- the first one is cut
pub cut_in_first : (first first_text second second_text : List ℕ) (before after : Files) → first ≢ second → IsCut (before first) first_text (after first) → OthersStay first before after → AreTextsCut first first_text second second_text before after
cut_in_first first first_text second second_text before after apart cut one =
    record { first_cut = cut; second_cut = inl (one second (λ same. apart (sym same))); others = λ name not_second not_first. one name not_first }

-- the first one is whole, and the second is cut
pub cut_in_second : (first first_text second second_text : List ℕ) (before between after : Files) → first ≢ second → IsCut (before first) first_text (between first) → between first ≡ Some first_text → OthersStay first before between →
    IsCut (between second) second_text (after second) → OthersStay second between after → AreTextsCut first first_text second second_text before after
cut_in_second first first_text second second_text before between after apart first_cut whole one cut then = record {
  first_cut = subst (λ (file : Option (List ℕ)). IsCut (before first) first_text file) (sym (then first apart)) first_cut;
  second_cut = by cut;
  others = rest_of_both first second before between after one then;
}
  where
    by : IsCut (between second) second_text (after second) → (after second ≡ before second) ⊎ ((after first ≡ Some first_text) × StartsWith second_text (bytes_of (after second)))
    by (inl same) = inl (same ∙ one second (λ same_name. apart (sym same_name)))
    by (inr front) = inr (then first apart ∙ whole, front)
