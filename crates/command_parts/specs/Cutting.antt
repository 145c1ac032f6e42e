-- What `cut` answers, and what it leaves in the files.
use Rattle.std.specs.Prelude.{◌≡◌, ◌<◌, ◌≤◌, ◌++◌, ℕ, List, Result, Ok, Err, codes, length, nat_lt, if◌then◌else◌}
use Rattle.std.specs.Fmt.{decimal}
use Rattle.plan_io.specs.Files.{bytes_of, Files}
use Rattle.cluster.specs.declared.sets.NodeSet.{NodeSet}
use Rattle.catalogue.specs.Prelude.{Instance}
use Rattle.instance_make.specs.Prelude.{instance_of, instance_text, max_text_bytes}
use Rattle.partition.specs.Prelude.{part_of, Split}
use Rattle.command_frame.specs.{Answer.AnswersBy, Answer.LeavesBy, Answer.Outside, Inputs.input_line, Outputs.HasText, Outputs.IsTextCut, declared.status.Status.Status}
use Rattle.command_groups.specs.Splitting.{split_in}

-- The line that says which part was written, of how many.
unfoldable pub cut_line : (i count : ℕ) → List ℕ
cut_line i count = codes "cut " ++ decimal i ++ codes " of " ++ decimal count ++ codes "\n"

-- The number of a part, where there are so many, or the line that refuses it.
unfoldable pub part_number : (count number : ℕ) → Result ℕ (List ℕ)
part_number count number = if nat_lt number count then Ok number else Err (input_line (codes "part") (codes "out of range"))

-- The part of a group is written as an instance of its own, which is read back where it has no more bytes than an instance may have. No other file
-- changes, and the line says which part it is.
pub record WritesPart (part_file : List ℕ) (p : Instance) (groups : List NodeSet) (i : ℕ) (before after : Outside) (result : Status) : Type 0 where
  pub split : Split p groups
  pub within : i < length groups
  pub written : HasText part_file (instance_text (part_of p groups i)) before.files after.files
  pub reads : length (instance_text (part_of p groups i)) ≤ max_text_bytes → instance_of (bytes_of (after.files part_file)) ≡ Ok (part_of p groups i)
  pub printed : after.printed ≡ before.printed ++ cut_line i (length groups)
  pub status : result ≡ Status.Good

-- `cut` of a problem that groups split, by the number of the part.
abbrev pub CutsPart : (number : ℕ) (part_file : List ℕ) → Instance → List NodeSet → Outside → Outside → Status → Type 0
CutsPart number part_file p groups before after result = AnswersBy (WritesPart part_file p groups) (part_number (length groups) number) before after result

-- `cut` of a problem, by the groups in their file.
abbrev pub IsCutOut : (groups_file : List ℕ) (number : ℕ) (part_file : List ℕ) → Instance → Outside → Outside → Status → Type 0
IsCutOut groups_file number part_file p before after result = AnswersBy (CutsPart number part_file p) (split_in p before.files groups_file) before after result

-- However it ends, the file is as before, absent, empty or a prefix of the text of the part, and no other file changes. Where the number is refused, all is as
-- before.
abbrev pub LeavesPart : (number : ℕ) (part_file : List ℕ) → Instance → List NodeSet → Files → Files → Type 0
LeavesPart number part_file p groups before after =
    LeavesBy (λ i. IsTextCut part_file (instance_text (part_of p groups i))) (part_number (length groups) number) before after

-- The same by the groups in their file. Where they are refused, all is as before.
abbrev pub LeavesCutOut : (groups_file : List ℕ) (number : ℕ) (part_file : List ℕ) → Instance → Files → Files → Type 0
LeavesCutOut groups_file number part_file p before after = LeavesBy (LeavesPart number part_file p) (split_in p before groups_file) before after
