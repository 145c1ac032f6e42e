-- What the inputs that commands read have in common.
pub mod Instance
pub mod Plan
use Rattle.std.specs.Prelude.{ℕ, List, ◌++◌, length, nat_le, Result, Ok, Err, if◌then◌else◌, codes}
use Rattle.json_walk.specs.Json.{max_text_bytes}

-- The line that refuses an input.
abbrev pub input_line : (input text : List ℕ) → List ℕ
input_line input text = codes "input " ++ input ++ codes " " ++ text ++ codes "\n"

-- All bytes of an input, or the line that refuses more than the most.
unfoldable pub whole_of : (input bytes : List ℕ) → Result (List ℕ) (List ℕ)
whole_of input bytes = if nat_le (length bytes) max_text_bytes then Ok bytes else Err (input_line input (codes "too long"))
