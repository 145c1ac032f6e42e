-- What `generate` answers, and what it leaves in the files.
use Rattle.std.specs.Prelude.{◌≡◌, ◌++◌, ℕ, List, codes}
use Rattle.std.specs.Fmt.{decimal}
use Rattle.instance_make.specs.Prelude.{generated, instance_text}
use Rattle.plan_io.specs.Files.{Files}
use Rattle.command_frame.specs.{Answer.Outside, Outputs.HasText, Outputs.IsTextCut, declared.status.Status.Status}

-- The line that says what was generated.
unfoldable pub generated_line : ℕ → List ℕ
generated_line seed = codes "generated " ++ decimal seed ++ codes "\n"

-- The problem of a seed is written, and no other file changes.
abbrev pub HasGenerated : (seed : ℕ) (instance : List ℕ) → Files → Files → Type 0
HasGenerated seed instance before after = HasText instance (instance_text (generated seed)) before after

-- The problem of a seed is written, and the line has the seed.
pub record IsGenerated (seed : ℕ) (instance : List ℕ) (before after : Outside) (result : Status) : Type 0 where
  pub written : HasGenerated seed instance before.files after.files
  pub printed : after.printed ≡ before.printed ++ generated_line seed
  pub status : result ≡ Status.Good

-- However it ends, the file is as before, absent, empty or a prefix of the text, and no other file changes.
abbrev pub LeavesGenerated : (seed : ℕ) (instance : List ℕ) → Files → Files → Type 0
LeavesGenerated seed instance before after = IsTextCut instance (instance_text (generated seed)) before after
