-- What the words of the command line ask for.
use Rattle.std.specs.Prelude.{◌&&◌, ◌==◌, ◌^◌, Bool, true, false, not, ℕ, List, [], ◌∷◌, length, nat_le, nat_lt, Option, Some, None, if◌then◌else◌, map, codes, String, string_bytes, bytes_eq, option_map}
use Rattle.std.specs.{List.list_all, Fmt.decimal, Str.Parse.digits_value, declared.alloc.Global.Global}

-- A command, with the names of its files, and its seed, its budget of decisions, the number of a part, or whether the check is strict.
pub data Command : Type 0 where
  plan : (instance plan_file certificate : List ℕ) (budget : ℕ) → Command
  check : (instance plan_file certificate : List ℕ) (strict : Bool) → Command
  replay : (instance plan_file : List ℕ) → Command
  show : (instance plan_file : List ℕ) → Command
  picture : (instance plan_file picture_file : List ℕ) → Command
  script : (instance script_file out_file : List ℕ) → Command
  execute : (instance plan_file : List ℕ) → Command
  repair : (instance plan_file new_instance new_plan : List ℕ) → Command
  explain : (instance core certificate : List ℕ) (budget : ℕ) → Command
  cut : (instance groups_file : List ℕ) (number : ℕ) (part_file : List ℕ) → Command
  parts : (instance groups_file plan_file certificate : List ℕ) (budget : ℕ) → Command
  checkparts : (instance groups_file plan_file certificate : List ℕ) → Command
  generate : (seed : ℕ) (instance : List ℕ) → Command
  demo : (seed : ℕ) → Command

-- A file's name has a byte, and no more than 4,096.
abbrev pub is_name : List ℕ → Bool
is_name word = nat_le 1 (length word) && nat_le (length word) 4096

-- Names of files, no two of them the same.
abbrev pub are_names : List (List ℕ) → Bool
are_names [] = true
are_names (word ∷ words) = is_name word && list_all (λ other. not (bytes_eq word other)) words && are_names words

-- The number whose decimal text the word is, if there is one below 2^64.
unfoldable pub number_of : List ℕ → Option ℕ
number_of word = if nat_lt (digits_value 10 word) (2 ^ 64) && bytes_eq word (decimal (digits_value 10 word)) then Some (digits_value 10 word) else None

-- Helping only: a number without a sign before it, and without a zero before another digit.
abbrev pub is_plain : List ℕ → Bool
is_plain [] = false
is_plain (x ∷ []) = not (x == 43)
is_plain (x ∷ y ∷ rest) = not (x == 43) && not (x == 48)

-- How many decisions a plan, or that of a part, may take where the words do not say it.
abbrev pub plan_decisions : ℕ
plan_decisions = 100000

-- How many each search of an explanation may take where the words do not say it.
abbrev pub explain_decisions : ℕ
explain_decisions = 10000

-- The command that these words are, if any.
abbrev pub command_of : List (List ℕ) → Option Command
command_of (word ∷ first ∷ second ∷ third ∷ []) =
    if bytes_eq word (codes "plan") && are_names (first ∷ second ∷ third ∷ []) then Some (plan first second third plan_decisions) else
    if bytes_eq word (codes "check") && are_names (first ∷ second ∷ third ∷ []) then Some (check first second third false) else
    if bytes_eq word (codes "picture") && are_names (first ∷ second ∷ third ∷ []) then Some (picture first second third) else
    if bytes_eq word (codes "script") && are_names (first ∷ second ∷ third ∷ []) then Some (script first second third) else
    if bytes_eq word (codes "explain") && are_names (first ∷ second ∷ third ∷ []) then Some (explain first second third explain_decisions) else None
command_of (word ∷ first ∷ second ∷ third ∷ last ∷ []) =
    if bytes_eq word (codes "check") && bytes_eq last (codes "strict") && are_names (first ∷ second ∷ third ∷ []) then Some (check first second third true) else
    if bytes_eq word (codes "repair") && are_names (first ∷ second ∷ third ∷ last ∷ []) then Some (repair first second third last) else
    if bytes_eq word (codes "cut") && are_names (first ∷ second ∷ last ∷ []) then option_map (λ number. cut first second number last) (number_of third) else
    if bytes_eq word (codes "parts") && are_names (first ∷ second ∷ third ∷ last ∷ []) then Some (parts first second third last plan_decisions) else
    if bytes_eq word (codes "checkparts") && are_names (first ∷ second ∷ third ∷ last ∷ []) then Some (checkparts first second third last) else None
command_of (word ∷ first ∷ second ∷ third ∷ between ∷ number ∷ []) =
    if bytes_eq word (codes "plan") && bytes_eq between (codes "budget") && are_names (first ∷ second ∷ third ∷ []) then option_map (plan first second third) (number_of number) else
    if bytes_eq word (codes "explain") && bytes_eq between (codes "budget") && are_names (first ∷ second ∷ third ∷ []) then option_map (explain first second third) (number_of number) else None
command_of (word ∷ first ∷ second ∷ third ∷ fourth ∷ between ∷ number ∷ []) =
    if bytes_eq word (codes "parts") && bytes_eq between (codes "budget") && are_names (first ∷ second ∷ third ∷ fourth ∷ []) then option_map (parts first second third fourth) (number_of number) else None
command_of (word ∷ first ∷ second ∷ []) =
    if bytes_eq word (codes "replay") && are_names (first ∷ second ∷ []) then Some (replay first second) else
    if bytes_eq word (codes "show") && are_names (first ∷ second ∷ []) then Some (show first second) else
    if bytes_eq word (codes "execute") && are_names (first ∷ second ∷ []) then Some (execute first second) else
    if bytes_eq word (codes "generate") && is_name second then option_map (λ seed. generate seed second) (number_of first) else None
command_of (word ∷ number ∷ []) = if bytes_eq word (codes "demo") then option_map demo (number_of number) else None
command_of _ = None

-- The command that the words of the command line ask for.
abbrev pub asked : List (String Global) → Option Command
asked words = command_of (map string_bytes words)
