-- What `cut` answers and leaves, by the readings of its inputs.
use Rattle.base.proofs.Public.{◌≡◌, ◌<◌, ◌≤◌, ℕ, List, ◌++◌, length, Result, Ok, Err, refl, ap, ◌∙◌, subst}
use Rattle.command_frame.proofs.Public.{answers_refused, answers_well, ends_more, says}
use Rattle.command_parts.specs.Prelude.{bytes_of, cut_line, CutsPart, Ending, Ends, Fault, Files, HasText, Instance, instance_of, instance_text, IsCutOut, IsTextCut, LeavesPart, max_text_bytes, NodeSet, Outside, outside, part_number, part_of, Split, split_in, Status, WritesPart}

-- ---- the part

-- it is written, and its line is said
pub part_written : (part_file : List ℕ) (p : Instance) (groups : List NodeSet) (part : Instance) (i count : ℕ) (before after : Files) (printed line : List ℕ) → Split p groups → i < length groups → count ≡ length groups → part ≡ part_of p groups i →
    HasText part_file (instance_text part) before after → (length (instance_text part) ≤ max_text_bytes → instance_of (instance_text part) ≡ Ok part) → line ≡ cut_line i count →
    WritesPart part_file p groups i (outside before printed) (outside after (printed ++ line)) Status.Good
part_written part_file p groups part i count before after printed line split within count_is is written reads text = record {
  split = split;
  within = within;
  written = there;
  reads = λ few. ap (λ file. instance_of (bytes_of file)) there.whole ∙ subst (λ q. length (instance_text q) ≤ max_text_bytes → instance_of (instance_text q) ≡ Ok q) is reads few;
  printed = ap (λ l. printed ++ l) (text ∙ ap (cut_line i) count_is);
  status = refl;
}
  where
    there : HasText part_file (instance_text (part_of p groups i)) before after
    there = subst (λ q. HasText part_file (instance_text q) before after) is written

-- ---- by the number of the part

-- the line that refuses it
pub refused_number : (number : ℕ) (part_file : List ℕ) (p : Instance) (groups : List NodeSet) (files : Files) (printed line : List ℕ) → part_number (length groups) number ≡ Err line →
    CutsPart number part_file p groups (outside files printed) (outside files (printed ++ line)) Status.Input
refused_number number part_file p groups files printed line read =
    answers_refused (WritesPart part_file p groups) _ line _ _ _ read (says line Status.Input files files printed refl)

-- how it ends where there are so many
pub ends_numbered : (number : ℕ) (part_file : List ℕ) (p : Instance) (groups : List NodeSet) (i : ℕ) (before after : Outside) (ended : Result Ending Fault) → part_number (length groups) number ≡ Ok i →
    Ends (WritesPart part_file p groups i before) after ended → Ends (CutsPart number part_file p groups before) after ended
ends_numbered number part_file p groups i before after ended read ends =
    ends_more (WritesPart part_file p groups i before) (CutsPart number part_file p groups before) after ended (λ then result is. answers_well (WritesPart part_file p groups) _ i _ _ _ read is) ends

-- what is left there
pub leaves_numbered : (number : ℕ) (part_file : List ℕ) (p : Instance) (groups : List NodeSet) (part : Instance) (i : ℕ) (before after : Files) → part_number (length groups) number ≡ Ok i → part ≡ part_of p groups i →
    IsTextCut part_file (instance_text part) before after → LeavesPart number part_file p groups before after
leaves_numbered number part_file p groups part i before after read is cut = rw read (subst (λ q. IsTextCut part_file (instance_text q) before after) is cut)

-- ---- by the file of the groups

-- the line that refuses them
pub refused_groups : (groups_file : List ℕ) (number : ℕ) (part_file : List ℕ) (p : Instance) (before after : Files) (printed line : List ℕ) → after ≡ before → split_in p before groups_file ≡ Err line →
    IsCutOut groups_file number part_file p (outside before printed) (outside after (printed ++ line)) Status.Input
refused_groups groups_file number part_file p before after printed line kept read =
    answers_refused (CutsPart number part_file p) _ line _ _ _ read (says line Status.Input before after printed kept)

-- how it ends where they split the problem
pub ends_split : (groups_file : List ℕ) (number : ℕ) (part_file : List ℕ) (p : Instance) (groups : List NodeSet) (before between after : Files) (printed : List ℕ) (ended : Result Ending Fault) → between ≡ before → split_in p before groups_file ≡ Ok groups →
    Ends (CutsPart number part_file p groups (outside between printed)) (outside after printed) ended → Ends (IsCutOut groups_file number part_file p (outside before printed)) (outside after printed) ended
ends_split groups_file number part_file p groups before between after printed ended kept read ends =
    ends_more (CutsPart number part_file p groups (outside before printed)) (IsCutOut groups_file number part_file p (outside before printed)) (outside after printed) ended
    (λ then result is. answers_well (CutsPart number part_file p) _ groups _ _ _ read is) (rw kept at ends)
