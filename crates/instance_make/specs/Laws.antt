-- What is proved of the texts of generated problems.
use Rattle.std.specs.Prelude.{ℕ, ◌≤◌, length}
use Rattle.instance_make.specs.Generated.{generated}
use Rattle.instance_make.specs.Text.{instance_text}

-- the most bytes that the text of a generated problem may have, far fewer than those of a text that can be read
abbrev pub most_generated_bytes : ℕ
most_generated_bytes = 300000

-- it has no more, whatever the seed
abbrev pub GeneratedTextIsShort : Type 0
GeneratedTextIsShort = (seed : ℕ) → length (instance_text (generated seed)) ≤ most_generated_bytes
