-- What the sink has got, however a run ends.
use Rattle.std.specs.Prelude.{◌≡◌, ◌⊎◌, ℕ, List}
use Rattle.std.specs.Io.{StartsWith}
use Rattle.command_frame.specs.{Answer.Outside, Answer.outside, declared.status.Status.Status}

-- What the sink has got is a prefix of what it has got at an answer.
pub record PrefixOf (answer : Outside → Status → Type 0) (after : Outside) : Type 0 where
  pub whole : List ℕ
  pub result : Status
  pub answered : answer (outside after.files whole) result
  pub prefix : StartsWith whole after.printed

-- Nothing is printed but a prefix of an answer, and nothing that was printed is lost.
unfoldable pub PrintsPrefixOf : (Outside → Status → Type 0) → Outside → Outside → Type 0
PrintsPrefixOf answer before after = StartsWith after.printed before.printed × ((after.printed ≡ before.printed) ⊎ PrefixOf answer after)
