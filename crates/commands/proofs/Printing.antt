-- What has been printed is a prefix of an answer.
use Rattle.std.proofs.Common.{◌≡◌, ℕ, List, ◌++◌, Option}
use Rattle.std.specs.Io.{StartsWith}
use Rattle.command_frame.proofs.Public.{prints_last as prints_last_of, prints_nothing as prints_nothing_of}
use Rattle.commands.specs.Prelude.{Command, Files, IsAnswer, Outside, outside, PrintsPrefix, Status}

-- nothing is a prefix of every answer
pub prints_nothing : (command : Option Command) (source : Option (List ℕ)) (before after : Files) (printed : List ℕ) → PrintsPrefix command source (outside before printed) (outside after printed)
unfolding PrintsPrefix
prints_nothing command source before after printed = prints_nothing_of (IsAnswer command source (outside before printed)) before after printed

-- what stands of an answer after its last line was begun
pub prints_last : (command : Option Command) (source : Option (List ℕ)) (before : Outside) (after : Files) (printed line text now : List ℕ) (said : Status) → PrintsPrefix command source before (outside after printed) → IsAnswer command source before (outside after (printed ++ line)) said → text ≡ line → StartsWith now printed → StartsWith (printed ++ text) now → PrintsPrefix command source before (outside after now)
unfolding PrintsPrefix
prints_last command source before after printed line text now said = prints_last_of (IsAnswer command source before) before after printed line text now said
