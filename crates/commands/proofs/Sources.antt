-- What is said of the source by commands that do not read it.
use Rattle.std.proofs.Common.{◌≡◌, ℕ, Option, None, Some, Result, subst}
use Rattle.command_frame.proofs.Public.{always_anyhow}
use Rattle.commands.specs.Prelude.{Command, demo, Ending, EndsAnyhow, Fault, Outside, Status, Takes, Taking}

pub no_command_takes : (command : Option Command) (taking : Taking) (before after : Outside) (ended : Result Ending Fault) → command ≡ None → EndsAnyhow (Takes command taking before) after ended
no_command_takes command taking before after ended is = rw is (always_anyhow (Takes None taking before) after ended (λ then result. tt))

pub unread : (command other : Option Command) (taking : Taking) (before after : Outside) (ended : Result Ending Fault) → other ≡ command → ((then : Outside) (result : Status) → Takes other taking before then result) →
    EndsAnyhow (Takes command taking before) after ended
unread command other taking before after ended is always =
    subst (λ (c : Option Command). EndsAnyhow (Takes c taking before) after ended) is (always_anyhow (Takes other taking before) after ended always)

-- and by `demo`
pub demo_takes : (command : Option Command) (seed : ℕ) (taking : Taking) (before after : Outside) (ended : Result Ending Fault) → command ≡ Some (demo seed) → EndsAnyhow (Takes command taking before) after ended
demo_takes command seed taking before after ended is = rw is (always_anyhow (Takes (Some (demo seed)) taking before) after ended (λ then result. tt))
