-- The grammar of a line: what its tokens say.
use Rattle.std.specs.Prelude.{◌≡◌, ℕ, zero, suc, Bool, true, false, not, List, [], ◌∷◌, length, Option, Some, None, Result, Ok, Err, option_map, option_and_then, codes, if◌then◌else◌}
use Rattle.std.specs.Str.{bytes_eq}
use Rattle.cluster.specs.Prelude.{is_name}
use Rattle.rule_script.specs.Kinds.{kind_of}
use Rattle.numerals.specs.Numbers.{number_of}
use Rattle.rule_script.specs.Sets.{Set, set_at}
use Rattle.rule_script.specs.declared.faults.LineFault.{LineFault}
use Rattle.rule_script.specs.declared.faults.LineFault.TheVariants.{NotALine, Memory}
use Rattle.rule_script.specs.declared.kinds.RuleKind.{RuleKind}
use Rattle.rule_script.specs.declared.kinds.RuleKind.TheVariants as kind
use Rattle.rule_script.specs.declared.statement.Call.{Call}
use Rattle.rule_script.specs.declared.statement.Call.TheVariants.{Spread, Ban, Fence, Gather, Lonely, Among, Split, Root, Precedence, Serialize, Preserve, ResourceCapacity, RunningCapacity, MaxOnline, Overbook, Online, Offline, Running, Sleeping, Ready, Killed}
use Rattle.rule_script.specs.declared.statement.Statement.{Statement}
use Rattle.rule_script.specs.declared.statement.Statement.TheVariants.{Nothing, Let, Each, Once}
use Rattle.rule_script.specs.declared.tokens.Token.{Token}
use Rattle.rule_script.specs.declared.tokens.Token.TheVariants.{Word, Variable, Opens, Closes, Colon, Comma, Bar, Equals}

-- ---- readings: of the first tokens of a list, with the tokens after them

abbrev pub Reading : Type 0 → Type 0
Reading A = List Token → Option (A × List Token)

abbrev pub goes_on : {A B : Type 0} → (A → Reading B) → Option (A × List Token) → Option (B × List Token)
goes_on f None = None
goes_on f (Some found) = f found.0 found.1

infixl 10 ◌>>=◌
abbrev pub ◌>>=◌ : {A B : Type 0} → Reading A → (A → Reading B) → Reading B
(m >>= f) tokens = goes_on f (m tokens)

infixl 10 ◌>>◌
abbrev pub ◌>>◌ : {A B : Type 0} → Reading A → Reading B → Reading B
(m >> n) tokens = goes_on (λ _. n) (m tokens)

abbrev pub give : {A : Type 0} → A → Reading A
give x tokens = Some (x, tokens)

-- one token, by what it is read as
abbrev pub one : {A : Type 0} → (Token → Option A) → Reading A
one f [] = None
one f (t ∷ tokens) = option_map (λ x. (x, tokens)) (f t)

-- nothing, where it may be
abbrev pub wants : Bool → Reading (Unit {0})
wants b tokens = if b then Some (tt, tokens) else None

-- ---- words and marks

abbrev pub word_in : Token → Option (List ℕ)
word_in (Word x) = Some x
word_in _ = None

abbrev pub variable_in : Token → Option (List ℕ)
variable_in (Variable x) = Some x
variable_in _ = None

abbrev pub opens_in : Token → Option (Unit {0})
opens_in Opens = Some tt
opens_in _ = None

abbrev pub closes_in : Token → Option (Unit {0})
closes_in Closes = Some tt
closes_in _ = None

abbrev pub comma_in : Token → Option (Unit {0})
comma_in Comma = Some tt
comma_in _ = None

abbrev pub colon_in : Token → Option (Unit {0})
colon_in Colon = Some tt
colon_in _ = None

abbrev pub equals_in : Token → Option (Unit {0})
equals_in Equals = Some tt
equals_in _ = None

unfoldable pub variable : Reading (List ℕ)
variable = one variable_in

unfoldable pub opens : Reading (Unit {0})
opens = one opens_in

unfoldable pub closes : Reading (Unit {0})
closes = one closes_in

unfoldable pub comma : Reading (Unit {0})
comma = one comma_in

unfoldable pub colon : Reading (Unit {0})
colon = one colon_in

unfoldable pub equals : Reading (Unit {0})
equals = one equals_in

-- a word that is a number
abbrev pub number_in : Token → Option ℕ
number_in t = option_and_then number_of (word_in t)

unfoldable pub number : Reading ℕ
number = one number_in

-- the word of a kind of constraint
abbrev pub kind_in : Token → Option RuleKind
kind_in t = option_and_then kind_of (word_in t)

unfoldable pub kind_at : Reading RuleKind
kind_at = one kind_in

-- a word that is the name of a resource
abbrev pub name_of_word : List ℕ → Option (List ℕ)
name_of_word x = if is_name x then Some x else None

abbrev pub name_in : Token → Option (List ℕ)
name_in t = option_and_then name_of_word (word_in t)

unfoldable pub name : Reading (List ℕ)
name = one name_in

-- whether that word stands next; it is then taken
unfoldable pub keyword : List ℕ → List Token → Bool × List Token
keyword x (Word y ∷ rest) = if bytes_eq y x then (true, rest) else (false, Word y ∷ rest)
keyword x tokens = (false, tokens)

-- whether `|` stands next; it is then taken
unfoldable pub bar : List Token → Bool × List Token
bar (Bar ∷ rest) = (true, rest)
bar tokens = (false, tokens)

-- the first where the word stands next, else the second
abbrev pub after_word : {A : Type 0} → List ℕ → Reading A → Reading A → Reading A
after_word x first second tokens = if (keyword x tokens).0 then first (keyword x tokens).1 else second (keyword x tokens).1

-- ---- sets and arguments

-- sets with `|` between each two
abbrev pub sets_after : Reading (List Set) → Set → Bool × List Token → Option (List Set × List Token)
sets_after more s (true, rest) = option_map (λ x. (s ∷ x.0, x.1)) (more rest)
sets_after more s (false, rest) = Some (s ∷ [], rest)

abbrev pub sets_from : Reading (List Set) → Option (Set × List Token) → Option (List Set × List Token)
sets_from more None = None
sets_from more (Some found) = sets_after more found.0 (bar found.1)

-- at most so many of them
unfoldable pub sets_within : ℕ → Reading (List Set)
sets_within zero tokens = None
sets_within (suc n) tokens = sets_from (sets_within n) (set_at tokens)

-- there are no more sets than tokens
unfoldable pub sets_at : Reading (List Set)
sets_at tokens = sets_within (length tokens) tokens

abbrev pub two_sets : Reading (Set × Set)
two_sets = do
  a ← set_at
  comma
  b ← set_at
  give (a, b)

abbrev pub set_and_number : Reading (Set × ℕ)
set_and_number = do
  s ← set_at
  comma
  n ← number
  give (s, n)

abbrev pub set_resource_number : Reading (Set × List ℕ × ℕ)
set_resource_number = do
  s ← set_at
  comma
  r ← name
  comma
  n ← number
  give (s, r, n)

-- `always` stands only before the kinds that carry the flag
abbrev pub unflagged : Bool → Reading (Unit {0})
unflagged always = wants (not always)

abbrev pub plain_set : Bool → Reading Set
plain_set always = unflagged always >> set_at

-- the arguments of a call, by its kind
unfoldable pub arguments : Bool → RuleKind → Reading Call
arguments always kind.Spread = set_at >>= λ s. give (Spread s always)
arguments always kind.Gather = set_at >>= λ s. give (Gather s always)
arguments always kind.Lonely = set_at >>= λ s. give (Lonely s always)
arguments always kind.Ban = two_sets >>= λ x. give (Ban x.0 x.1 always)
arguments always kind.Fence = two_sets >>= λ x. give (Fence x.0 x.1 always)
arguments always kind.Among = do
  s ← set_at
  comma
  groups ← sets_at
  give (Among s groups always)
arguments always kind.Split = sets_at >>= λ parts. give (Split parts always)
arguments always kind.ResourceCapacity = set_resource_number >>= λ x. give (ResourceCapacity x.0 x.1 x.2 always)
arguments always kind.RunningCapacity = set_and_number >>= λ x. give (RunningCapacity x.0 x.1 always)
arguments always kind.MaxOnline = set_and_number >>= λ x. give (MaxOnline x.0 x.1 always)
arguments always kind.Root = plain_set always >>= λ s. give (Root s)
arguments always kind.Serialize = plain_set always >>= λ s. give (Serialize s)
arguments always kind.Online = plain_set always >>= λ s. give (Online s)
arguments always kind.Offline = plain_set always >>= λ s. give (Offline s)
arguments always kind.Running = plain_set always >>= λ s. give (Running s)
arguments always kind.Sleeping = plain_set always >>= λ s. give (Sleeping s)
arguments always kind.Ready = plain_set always >>= λ s. give (Ready s)
arguments always kind.Killed = plain_set always >>= λ s. give (Killed s)
arguments always kind.Precedence = do
  unflagged always
  x ← two_sets
  give (Precedence x.0 x.1)
arguments always kind.Preserve = do
  unflagged always
  x ← set_resource_number
  give (Preserve x.0 x.1 x.2)
arguments always kind.Overbook = do
  unflagged always
  x ← set_resource_number
  comma
  den ← number
  give (Overbook x.0 x.1 x.2 den)

-- ---- statements

-- [ always ] KIND ( args )
unfoldable pub call_at : Reading Call
call_at = do
  always ← (λ tokens. Some (keyword (codes "always") tokens))
  kind ← kind_at
  opens
  call ← arguments always kind
  closes
  give call

-- that word
abbrev pub needs : List ℕ → Reading (Unit {0})
needs x tokens = if (keyword x tokens).0 then Some (tt, (keyword x tokens).1) else None

-- $x = set
unfoldable pub binding : Reading Statement
binding = do
  x ← variable
  equals
  s ← set_at
  give (Let x s)

-- $x in set : call
unfoldable pub each_of : Reading Statement
each_of = do
  x ← variable
  needs (codes "in")
  s ← set_at
  colon
  call ← call_at
  give (Each x s call)

unfoldable pub once : Reading Statement
once = call_at >>= λ call. give (Once call)

abbrev pub is_over : List Token → Bool
is_over [] = true
is_over (t ∷ tokens) = false

unfoldable pub spoken : Reading Statement
spoken tokens = if is_over tokens then Some (Nothing, tokens) else after_word (codes "let") binding (after_word (codes "each") each_of once) tokens

-- what was read, where no token is left
abbrev pub all_read : {A : Type 0} → Option (A × List Token) → Option A
all_read None = None
all_read (Some found) = if is_over found.1 then Some found.0 else None

-- what all tokens of a line say
unfoldable pub statement : List Token → Option Statement
statement tokens = all_read (spoken tokens)

-- ---- what a call answers: the reading, and the tokens after it; of want of memory nothing is said

abbrev pub Takes : {A : Type 0} → Result A LineFault → List Token → Option (A × List Token) → Type 0
Takes (Ok x) after found = found ≡ Some (x, after)
Takes (Err NotALine) after found = found ≡ None
Takes (Err Memory) after found = Unit {0}

abbrev pub Gives : {A : Type 0} → Result A LineFault → Option A → Type 0
Gives (Ok x) found = found ≡ Some x
Gives (Err NotALine) found = found ≡ None
Gives (Err Memory) found = Unit {0}
