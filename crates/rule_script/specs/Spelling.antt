-- How calls and statements are spelled: the tokens of each.
use Rattle.std.specs.Prelude.{ℕ, Bool, true, false, List, [], ◌∷◌, ◌++◌, codes}
use Rattle.std.specs.Fmt.{decimal}
use Rattle.rule_script.specs.Kinds.{kind_word}
use Rattle.rule_script.specs.Sets.{Set, spelled}
use Rattle.rule_script.specs.declared.kinds.RuleKind.{RuleKind}
use Rattle.rule_script.specs.declared.kinds.RuleKind.TheVariants as kind
use Rattle.rule_script.specs.declared.statement.Call.{Call}
use Rattle.rule_script.specs.declared.statement.Call.TheVariants.{Spread, Ban, Fence, Gather, Lonely, Among, Split, Root, Precedence, Serialize, Preserve, ResourceCapacity, RunningCapacity, MaxOnline, Overbook, Online, Offline, Running, Sleeping, Ready, Killed}
use Rattle.rule_script.specs.declared.statement.Statement.{Statement}
use Rattle.rule_script.specs.declared.statement.Statement.TheVariants.{Nothing, Let, Each, Once}
use Rattle.rule_script.specs.declared.tokens.Token.{Token}
use Rattle.rule_script.specs.declared.tokens.Token.TheVariants.{Word, Variable, Opens, Closes, Colon, Comma, Bar, Equals}

-- ---- parts

-- a number as a word
abbrev pub numeral : ℕ → Token
numeral n = Word (decimal n)

-- each of these sets after a `|`
abbrev pub spelled_after_bars : List Set → List Token
spelled_after_bars [] = []
spelled_after_bars (s ∷ ss) = Bar ∷ (spelled s ++ spelled_after_bars ss)

-- sets with `|` between each two
abbrev pub spelled_sets : List Set → List Token
spelled_sets [] = []
spelled_sets (s ∷ ss) = spelled s ++ spelled_after_bars ss

abbrev pub spelled_two : Set → Set → List Token
spelled_two s t = spelled s ++ Comma ∷ spelled t

abbrev pub spelled_amount : Set → ℕ → List Token
spelled_amount s n = spelled s ++ Comma ∷ numeral n ∷ []

abbrev pub spelled_resource : Set → List ℕ → ℕ → List Token
spelled_resource s x n = spelled s ++ Comma ∷ Word x ∷ Comma ∷ numeral n ∷ []

-- ---- calls

abbrev pub kind_of_call : Call → RuleKind
kind_of_call (Spread s b) = kind.Spread
kind_of_call (Ban s t b) = kind.Ban
kind_of_call (Fence s t b) = kind.Fence
kind_of_call (Gather s b) = kind.Gather
kind_of_call (Lonely s b) = kind.Lonely
kind_of_call (Among s ts b) = kind.Among
kind_of_call (Split ss b) = kind.Split
kind_of_call (Root s) = kind.Root
kind_of_call (Precedence s t) = kind.Precedence
kind_of_call (Serialize s) = kind.Serialize
kind_of_call (Preserve s x n) = kind.Preserve
kind_of_call (ResourceCapacity s x n b) = kind.ResourceCapacity
kind_of_call (RunningCapacity s n b) = kind.RunningCapacity
kind_of_call (MaxOnline s n b) = kind.MaxOnline
kind_of_call (Overbook s x num den) = kind.Overbook
kind_of_call (Online s) = kind.Online
kind_of_call (Offline s) = kind.Offline
kind_of_call (Running s) = kind.Running
kind_of_call (Sleeping s) = kind.Sleeping
kind_of_call (Ready s) = kind.Ready
kind_of_call (Killed s) = kind.Killed

-- whether `always` stands before it
abbrev pub is_always : Call → Bool
is_always (Spread s b) = b
is_always (Ban s t b) = b
is_always (Fence s t b) = b
is_always (Gather s b) = b
is_always (Lonely s b) = b
is_always (Among s ts b) = b
is_always (Split ss b) = b
is_always (Root s) = false
is_always (Precedence s t) = false
is_always (Serialize s) = false
is_always (Preserve s x n) = false
is_always (ResourceCapacity s x n b) = b
is_always (RunningCapacity s n b) = b
is_always (MaxOnline s n b) = b
is_always (Overbook s x num den) = false
is_always (Online s) = false
is_always (Offline s) = false
is_always (Running s) = false
is_always (Sleeping s) = false
is_always (Ready s) = false
is_always (Killed s) = false

-- what stands between its brackets
abbrev pub spelled_arguments : Call → List Token
spelled_arguments (Spread s b) = spelled s
spelled_arguments (Ban s t b) = spelled_two s t
spelled_arguments (Fence s t b) = spelled_two s t
spelled_arguments (Gather s b) = spelled s
spelled_arguments (Lonely s b) = spelled s
spelled_arguments (Among s ts b) = spelled s ++ Comma ∷ spelled_sets ts
spelled_arguments (Split ss b) = spelled_sets ss
spelled_arguments (Root s) = spelled s
spelled_arguments (Precedence s t) = spelled_two s t
spelled_arguments (Serialize s) = spelled s
spelled_arguments (Preserve s x n) = spelled_resource s x n
spelled_arguments (ResourceCapacity s x n b) = spelled_resource s x n
spelled_arguments (RunningCapacity s n b) = spelled_amount s n
spelled_arguments (MaxOnline s n b) = spelled_amount s n
spelled_arguments (Overbook s x num den) = spelled_resource s x num ++ Comma ∷ numeral den ∷ []
spelled_arguments (Online s) = spelled s
spelled_arguments (Offline s) = spelled s
spelled_arguments (Running s) = spelled s
spelled_arguments (Sleeping s) = spelled s
spelled_arguments (Ready s) = spelled s
spelled_arguments (Killed s) = spelled s

-- [ always ] KIND ( args )
abbrev pub spelled_plain_call : Call → List Token
spelled_plain_call c = Word (kind_word (kind_of_call c)) ∷ Opens ∷ (spelled_arguments c ++ Closes ∷ [])

abbrev pub after_always : Bool → List Token → List Token
after_always true tokens = Word (codes "always") ∷ tokens
after_always false tokens = tokens

abbrev pub spelled_call : Call → List Token
spelled_call c = after_always (is_always c) (spelled_plain_call c)

-- ---- statements

abbrev pub spelled_statement : Statement → List Token
spelled_statement Nothing = []
spelled_statement (Let x s) = Word (codes "let") ∷ Variable x ∷ Equals ∷ spelled s
spelled_statement (Each x s call) = Word (codes "each") ∷ Variable x ∷ Word (codes "in") ∷ (spelled s ++ Colon ∷ spelled_call call)
spelled_statement (Once call) = spelled_call call
