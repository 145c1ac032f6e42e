-- The exit statuses.
use Rattle.std.specs.Prelude.{ℕ}
use Rattle.command_frame.specs.declared.status.Status.{Status}
use Rattle.command_frame.specs.declared.status.Status.TheVariants.{Good, Negative, Undecided, Words, Input, ReadFault, WriteFault, Memory}

abbrev pub code_of : Status → ℕ
code_of Good = 0
code_of Negative = 1
code_of Undecided = 2
code_of Words = 3
code_of Input = 4
code_of ReadFault = 5
code_of WriteFault = 6
code_of Memory = 7
