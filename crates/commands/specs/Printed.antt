-- What the sink has got, however a run ends.
use Rattle.std.specs.Prelude.{ℕ, List, Option}
use Rattle.command_frame.specs.{Answer.Outside, Printed.PrintsPrefixOf}
use Rattle.command_words.specs.Words.{Command}
use Rattle.commands.specs.Commands.{IsAnswer}

-- Nothing is printed but a prefix of an answer, and nothing that was printed is lost.
unfoldable pub PrintsPrefix : Option Command → Option (List ℕ) → Outside → Outside → Type 0
PrintsPrefix command source before after = PrintsPrefixOf (IsAnswer command source before) before after
