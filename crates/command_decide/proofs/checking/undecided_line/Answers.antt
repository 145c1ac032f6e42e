use Rattle.std.proofs.Common.{string_bytes}
use Rattle.command_decide.proofs.CheckAnswers.{with_least}
use Rattle.command_decide.proofs.checking.undecided_line.Goals as goal

pub returns-in_ok-format-in-Some : goal.returns-in_ok-format-in-Some
returns-in_ok-format-in-Some c = with_least c.args.count c.in-Some.least c.args.least (string_bytes c.in_ok-format-in-Some.field-0) c.in-Some.is c.in_ok-format-in-Some.ensures.ok
