-- The laws: of sets and of statements, what is read is what is spelled; of scripts, what they add stands last.
use Rattle.std.specs.Prelude.{◌≡◌, ◌<◌, ◌≤◌, ◌^◌, ℕ, List, [], ◌∷◌, ◌++◌, IsTrue, Ok, Some}
use Rattle.cluster.specs.Prelude.{is_name}
use Rattle.catalogue.specs.Instance.{Instance}
use Rattle.catalogue.specs.declared.constraint.Constraint.{Constraint}
use Rattle.rule_script.specs.Grammar.{statement}
use Rattle.rule_script.specs.Script.{Progress, script_done}
use Rattle.rule_script.specs.Sets.{Set, IsSet, max_open, open_in, set_at, spelled}
use Rattle.rule_script.specs.Spelling.{spelled_statement}
use Rattle.rule_script.specs.declared.statement.Call.{Call}
use Rattle.rule_script.specs.declared.statement.Call.TheVariants.{Spread, Ban, Fence, Gather, Lonely, Among, Split, Root, Precedence, Serialize, Preserve, ResourceCapacity, RunningCapacity, MaxOnline, Overbook, Online, Offline, Running, Sleeping, Ready, Killed}
use Rattle.rule_script.specs.declared.statement.Statement.{Statement}
use Rattle.rule_script.specs.declared.statement.Statement.TheVariants.{Nothing, Let, Each, Once}
use Rattle.rule_script.specs.declared.tokens.Token.{Token}
use Rattle.rule_script.specs.declared.tokens.Token.TheVariants.{Word, Variable, Span, Sign, Opens, Closes, From, Upto, Colon, Comma, Bar, Equals, Other}

-- ---- sets

-- what follows does not go on with a set
abbrev pub Stops : List Token → Type 0
Stops [] = Unit {0}
Stops (Sign op ∷ rest) = ⊥
Stops (Word x ∷ rest) = Unit {0}
Stops (Variable x ∷ rest) = Unit {0}
Stops (Span x a b ∷ rest) = Unit {0}
Stops (Opens ∷ rest) = Unit {0}
Stops (Closes ∷ rest) = Unit {0}
Stops (From ∷ rest) = Unit {0}
Stops (Upto ∷ rest) = Unit {0}
Stops (Colon ∷ rest) = Unit {0}
Stops (Comma ∷ rest) = Unit {0}
Stops (Bar ∷ rest) = Unit {0}
Stops (Equals ∷ rest) = Unit {0}
Stops (Other ∷ rest) = Unit {0}

-- a set that can be written: its names are names, its operators are taken from the left, and not too many brackets are open at once
pub record IsWritten (s : Set) : Type 0 where
  pub parts : IsSet s
  pub few : open_in s ≤ max_open

-- each set that is written is read, whatever follows; and what is read is a set that is written so
pub record SetsAreExact : Type 0 where
  pub read : (s : Set) (rest : List Token) → IsWritten s → Stops rest → set_at (spelled s ++ rest) ≡ Some (s, rest)
  pub spelled : (ts rest : List Token) (s : Set) → set_at ts ≡ Some (s, rest) → IsWritten s × Stops rest × (ts ≡ spelled s ++ rest)

-- ---- statements

abbrev pub AreAllWritten : List Set → Type 0
AreAllWritten [] = Unit {0}
AreAllWritten (s ∷ ss) = IsWritten s × AreAllWritten ss

-- where several sets may stand, there is at least one
abbrev pub AreWritten : List Set → Type 0
AreWritten [] = ⊥
AreWritten (s ∷ ss) = IsWritten s × AreAllWritten ss

-- a number that can be written
abbrev pub IsAmount : ℕ → Type 0
IsAmount n = n < 2 ^ 64

-- the name of a resource that can be written
abbrev pub IsResourceName : List ℕ → Type 0
IsResourceName x = IsTrue (is_name x)

-- a call whose sets, names and numbers can be written
abbrev pub IsWrittenCall : Call → Type 0
IsWrittenCall (Spread s b) = IsWritten s
IsWrittenCall (Ban s t b) = IsWritten s × IsWritten t
IsWrittenCall (Fence s t b) = IsWritten s × IsWritten t
IsWrittenCall (Gather s b) = IsWritten s
IsWrittenCall (Lonely s b) = IsWritten s
IsWrittenCall (Among s ts b) = IsWritten s × AreWritten ts
IsWrittenCall (Split ss b) = AreWritten ss
IsWrittenCall (Root s) = IsWritten s
IsWrittenCall (Precedence s t) = IsWritten s × IsWritten t
IsWrittenCall (Serialize s) = IsWritten s
IsWrittenCall (Preserve s x n) = IsWritten s × IsResourceName x × IsAmount n
IsWrittenCall (ResourceCapacity s x n b) = IsWritten s × IsResourceName x × IsAmount n
IsWrittenCall (RunningCapacity s n b) = IsWritten s × IsAmount n
IsWrittenCall (MaxOnline s n b) = IsWritten s × IsAmount n
IsWrittenCall (Overbook s x num den) = IsWritten s × IsResourceName x × IsAmount num × IsAmount den
IsWrittenCall (Online s) = IsWritten s
IsWrittenCall (Offline s) = IsWritten s
IsWrittenCall (Running s) = IsWritten s
IsWrittenCall (Sleeping s) = IsWritten s
IsWrittenCall (Ready s) = IsWritten s
IsWrittenCall (Killed s) = IsWritten s

-- a statement that can be written
abbrev pub IsWrittenStatement : Statement → Type 0
IsWrittenStatement Nothing = Unit {0}
IsWrittenStatement (Let x s) = IsWritten s
IsWrittenStatement (Each x s call) = IsWritten s × IsWrittenCall call
IsWrittenStatement (Once call) = IsWrittenCall call

-- each statement that can be written is read from its tokens; and what is read is a statement that is spelled so
pub record StatementsAreExact : Type 0 where
  pub read : (s : Statement) → IsWrittenStatement s → statement (spelled_statement s) ≡ Some s
  pub spelled : (ts : List Token) (s : Statement) → statement ts ≡ Some s → IsWrittenStatement s × (ts ≡ spelled_statement s)

-- ---- scripts

-- q is p with more constraints, which stand after those of p
pub record AddsTo (p q : Instance) : Type 0 where
  pub more : List Constraint
  pub whole : q ≡ record p { constraints = p.constraints ++ more }

-- a script changes nothing of a problem, but adds constraints after its own
abbrev pub ScriptsAdd : Type 0
ScriptsAdd = (p : Instance) (bytes : List ℕ) (after : Progress) → script_done p bytes ≡ Ok after → AddsTo p after.given
