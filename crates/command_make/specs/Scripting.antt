-- What `script` answers, and what it leaves in the files.
use Rattle.std.specs.Prelude.{◌≡◌, ◌++◌, ℕ, List, length, codes}
use Rattle.std.specs.Fmt.{decimal}
use Rattle.plan_io.specs.Files.{Files}
use Rattle.catalogue.specs.Instance.{Instance}
use Rattle.instance_make.specs.Prelude.{instance_text}
use Rattle.rule_script.specs.Laws.{AddsTo}
use Rattle.command_frame.specs.{Answer.Outside, Answer.AnswersBy, Answer.LeavesBy, Outputs.HasText, Outputs.IsTextCut, declared.status.Status.Status}
use Rattle.command_make.specs.ScriptInput.{script_in}

-- The line that says how many constraints a script added.
unfoldable pub scripted_line : ℕ → List ℕ
scripted_line count = codes "scripted " ++ decimal count ++ codes "\n"

-- A script makes q of p: q is p with more constraints after its own. The text of q is written, no other file changes, and the line says how many more there are.
pub record Scripts (out_file : List ℕ) (p q : Instance) (before after : Outside) (result : Status) : Type 0 where
  pub adds : AddsTo p q
  pub written : HasText out_file (instance_text q) before.files after.files
  pub printed : after.printed ≡ before.printed ++ scripted_line (length adds.more)
  pub status : result ≡ Status.Good

-- `script` of a problem, by the problem that the script in its file makes of it.
abbrev pub IsScripted : (script_file out_file : List ℕ) → Instance → Outside → Outside → Status → Type 0
IsScripted script_file out_file p before after result = AnswersBy (Scripts out_file p) (script_in p before.files script_file) before after result

-- However it ends, the file is as before, absent, empty or a prefix of the text of the problem that the script makes, and no other file changes. Where the script is refused, all is as before.
abbrev pub LeavesScripted : (script_file out_file : List ℕ) → Instance → Files → Files → Type 0
LeavesScripted script_file out_file p before after = LeavesBy (λ q. IsTextCut out_file (instance_text q)) (script_in p before script_file) before after
