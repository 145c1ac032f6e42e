-- The reading of a line, word by word. The laws say that it finds exactly the line that the bytes spell.
use Rattle.std.specs.Prelude.{◌≡◌, ℕ, ◌==◌, List, [], ◌∷◌, Option, Some, None, Result, Ok, Err, option_map, codes, if◌then◌else◌}
use Rattle.std.specs.List.{list_all, slice_split}
use Rattle.std.specs.Str.{bytes_eq}
use Rattle.cluster.specs.Names.{is_name}
use Rattle.reasons.specs.declared.reason.ReasonKind.{ReasonKind}
use Rattle.reasons.specs.declared.reason.ReasonKind.TheVariants.{Empty as TheEmpty, Bound as TheBound, Load as TheLoad, Pair as ThePair, Place as ThePlace, Group as TheGroup, SetLoad as TheSetLoad, Power as ThePower, Usable as TheUsable, Hall as TheHall}
use Rattle.trees.specs.declared.steps.Goal.{Goal}
use Rattle.trees.specs.declared.steps.Goal.TheVariants.{Optimal, Infeasible, Undecided}
use Rattle.cert_text.specs.declared.kinds.GoalKind.{GoalKind}
use Rattle.cert_text.specs.declared.kinds.GoalKind.TheVariants.{Optimal as TheOptimal, Infeasible as TheInfeasible, Undecided as TheUndecided}
use Rattle.cert_text.specs.declared.kinds.LineKind.{LineKind}
use Rattle.cert_text.specs.declared.kinds.LineKind.TheVariants.{Decide as TheDecide, Cut as TheCut, Fail as TheFail, Plan as ThePlan, Left as TheLeft, End as TheEnd}
use Rattle.cert_text.specs.declared.kinds.PartKind.{PartKind}
use Rattle.cert_text.specs.declared.kinds.PartKind.TheVariants.{Idle as TheIdle, Upto as TheUpto, From as TheFrom}
use Rattle.cert_text.specs.declared.kinds.TheConstants.{GOAL_KINDS, LINE_KINDS, PART_KINDS, REASON_KINDS}
use Rattle.cert_text.specs.declared.parsing.TextFault.{TextFault}
use Rattle.cert_text.specs.declared.parsing.TextFault.TheVariants.{NotALine, Memory}
use Rattle.cert_text.specs.declared.text.LineText.{LineText}
use Rattle.cert_text.specs.declared.text.LineText.TheVariants.{Step, End}
use Rattle.cert_text.specs.declared.text.NodesText.{NodesText}
use Rattle.cert_text.specs.declared.text.NodesText.TheVariants.{All, Listed}
use Rattle.cert_text.specs.declared.text.PartText.{PartText}
use Rattle.cert_text.specs.declared.text.PartText.TheVariants.{Idle, Upto, From}
use Rattle.cert_text.specs.declared.text.ReasonText.{ReasonText}
use Rattle.cert_text.specs.declared.text.ReasonText.TheVariants.{Empty, Bound, Load, Pair, Place, Group, SetLoad, Power, Usable, Hall}
use Rattle.cert_text.specs.declared.text.StepText.TheVariants.{Decide, Cut, Fail, Plan, Left}
use Rattle.cert_text.specs.Kinds.{Word, goal_word, line_word, named, part_word, reason_word}
use Rattle.numerals.specs.Numbers.{number_of}

-- ---- readings: of the first words of a list, with the words after them

abbrev pub Reading : Type 0 → Type 0
Reading A = List Word → Option (A × List Word)

abbrev pub goes_on : {A B : Type 0} → (A → Reading B) → Option (A × List Word) → Option (B × List Word)
goes_on f None = None
goes_on f (Some found) = f found.0 found.1

infixl 10 ◌>>=◌
abbrev pub ◌>>=◌ : {A B : Type 0} → Reading A → (A → Reading B) → Reading B
(m >>= f) words = goes_on f (m words)

abbrev pub give : {A : Type 0} → A → Reading A
give x words = Some (x, words)

-- one word, by what it is read as
abbrev pub one : {A : Type 0} → (Word → Option A) → Reading A
one f [] = None
one f (word ∷ words) = option_map (λ x. (x, words)) (f word)

-- ---- words

abbrev pub name_in : Word → Option Word
name_in word = if is_name word then Some word else None

abbrev pub place_in : Word → Option (Option Word)
place_in word = if bytes_eq word (codes "-") then Some None else option_map (λ name. Some name) (name_in word)

unfoldable pub name : Reading Word
name = one name_in

unfoldable pub place : Reading (Option Word)
place = one place_in

unfoldable pub number : Reading ℕ
number = one number_of

unfoldable pub line_kind : Reading LineKind
line_kind = one (named line_word LINE_KINDS)

unfoldable pub part_kind : Reading PartKind
part_kind = one (named part_word PART_KINDS)

unfoldable pub goal_kind : Reading GoalKind
goal_kind = one (named goal_word GOAL_KINDS)

unfoldable pub reason_kind : Reading ReasonKind
reason_kind = one (named reason_word REASON_KINDS)

-- ---- parts, lists of nodes, reasons and goals

abbrev pub part_of : PartKind → Reading PartText
part_of TheIdle = give Idle
part_of TheUpto = do
  at ← place
  start ← number
  give (Upto at start)
part_of TheFrom = do
  at ← place
  start ← number
  give (From at start)

unfoldable pub part : Reading PartText
part = do
  kind ← part_kind
  part_of kind

-- all words, unless one of them is no name
abbrev pub names_of : List Word → Option (List Word)
names_of words = if list_all is_name words then Some words else None

abbrev pub listed_in : List Word → Option NodesText
listed_in words = option_map (λ names. Listed names) (names_of words)

-- all words: there is one, and it is `*`, or each is a name
abbrev pub nodes_in : List Word → Option NodesText
nodes_in [] = None
nodes_in (word ∷ []) = if bytes_eq word (codes "*") then Some All else listed_in (word ∷ [])
nodes_in (word ∷ other ∷ words) = listed_in (word ∷ other ∷ words)

unfoldable pub nodes : Reading NodesText
nodes words = option_map (λ found. (found, [])) (nodes_in words)

unfoldable pub reason_of : ReasonKind → Reading ReasonText
reason_of TheEmpty = do
  e ← name
  give (Empty e)
reason_of TheBound = give Bound
reason_of TheLoad = do
  t ← number
  r ← name
  set ← nodes
  give (Load t r set)
reason_of ThePair = do
  c ← number
  t ← number
  v ← name
  w ← name
  n ← name
  give (Pair c t v w n)
reason_of ThePlace = do
  c ← number
  t ← number
  v ← name
  n ← name
  give (Place c t v n)
reason_of TheGroup = do
  c ← number
  t ← number
  give (Group c t)
reason_of TheSetLoad = do
  c ← number
  t ← number
  give (SetLoad c t)
reason_of ThePower = do
  c ← number
  t ← number
  give (Power c t)
reason_of TheUsable = do
  t ← number
  v ← name
  n ← name
  give (Usable t v n)
reason_of TheHall = do
  c ← number
  t ← number
  set ← nodes
  give (Hall c t set)

unfoldable pub reason : Reading ReasonText
reason = do
  kind ← reason_kind
  reason_of kind

unfoldable pub goal_of : GoalKind → Reading Goal
goal_of TheOptimal = do
  cost ← number
  give (Optimal cost)
goal_of TheInfeasible = give Infeasible
goal_of TheUndecided = do
  count ← number
  give (Undecided count)

unfoldable pub goal : Reading Goal
goal = do
  kind ← goal_kind
  goal_of kind

-- ---- lines

unfoldable pub line_of : LineKind → Reading LineText
line_of TheDecide = do
  e ← name
  side ← part
  give (Step (Decide e side))
line_of TheCut = do
  e ← name
  side ← part
  why ← reason
  give (Step (Cut e side why))
line_of TheFail = do
  why ← reason
  give (Step (Fail why))
line_of ThePlan = do
  cost ← number
  give (Step (Plan cost))
line_of TheLeft = give (Step Left)
line_of TheEnd = do
  shown ← goal
  give (End shown)

unfoldable pub line : Reading LineText
line = do
  kind ← line_kind
  line_of kind

-- the words between blanks
abbrev pub words_of : List ℕ → List Word
words_of bytes = slice_split (λ b. b == 32) bytes

-- what was read, where no word is left
abbrev pub all_read : {A : Type 0} → Option (A × List Word) → Option A
all_read None = None
all_read (Some (x, [])) = Some x
all_read (Some (x, word ∷ words)) = None

-- the line that bytes without a newline are, if they are one
unfoldable pub reading : List ℕ → Option LineText
reading bytes = all_read (line (words_of bytes))

-- ---- what a call answers: the reading, and the words after it; of want of memory nothing is said

abbrev pub Takes : {A : Type 0} → Result A TextFault → List Word → Option (A × List Word) → Type 0
Takes (Ok x) after found = found ≡ Some (x, after)
Takes (Err NotALine) after found = found ≡ None
Takes (Err Memory) after found = Unit {0}

abbrev pub Gives : {A : Type 0} → Result A TextFault → Option A → Type 0
Gives (Ok x) found = found ≡ Some x
Gives (Err NotALine) found = found ≡ None
Gives (Err Memory) found = Unit {0}
