-- How each line is spelled. A line has its words with one blank between each two, and a newline byte at its end.
use Rattle.std.specs.Prelude.{◌≡◌, ◌≢◌, ℕ, ◌<◌, ◌^◌, List, [], ◌∷◌, ◌++◌, IsTrue, Option, Some, None, codes}
use Rattle.std.specs.Fmt.{decimal}
use Rattle.std.specs.List.{join_with_byte, list_all}
use Rattle.cluster.specs.Names.{is_name}
use Rattle.reasons.specs.declared.reason.ReasonKind.TheVariants.{Empty as TheEmpty, Bound as TheBound, Load as TheLoad, Pair as ThePair, Place as ThePlace, Group as TheGroup, SetLoad as TheSetLoad, Power as ThePower, Usable as TheUsable, Hall as TheHall}
use Rattle.trees.specs.declared.steps.Goal.{Goal}
use Rattle.trees.specs.declared.steps.Goal.TheVariants.{Optimal, Infeasible, Undecided}
use Rattle.cert_text.specs.declared.kinds.GoalKind.TheVariants.{Optimal as TheOptimal, Infeasible as TheInfeasible, Undecided as TheUndecided}
use Rattle.cert_text.specs.declared.kinds.LineKind.TheVariants.{Decide as TheDecide, Cut as TheCut, Fail as TheFail, Plan as ThePlan, Left as TheLeft, End as TheEnd}
use Rattle.cert_text.specs.declared.kinds.PartKind.TheVariants.{Idle as TheIdle, Upto as TheUpto, From as TheFrom}
use Rattle.cert_text.specs.declared.text.LineText.{LineText}
use Rattle.cert_text.specs.declared.text.LineText.TheVariants.{Step, End}
use Rattle.cert_text.specs.declared.text.NodesText.{NodesText}
use Rattle.cert_text.specs.declared.text.NodesText.TheVariants.{All as AllNodes, Listed}
use Rattle.cert_text.specs.declared.text.PartText.{PartText}
use Rattle.cert_text.specs.declared.text.PartText.TheVariants.{Idle, Upto, From}
use Rattle.cert_text.specs.declared.text.ReasonText.{ReasonText}
use Rattle.cert_text.specs.declared.text.ReasonText.TheVariants.{Empty, Bound, Load, Pair, Place, Group, SetLoad, Power, Usable, Hall}
use Rattle.cert_text.specs.declared.text.StepText.{StepText}
use Rattle.cert_text.specs.declared.text.StepText.TheVariants.{Decide, Cut, Fail, Plan, Left}
use Rattle.cert_text.specs.Kinds.{Word, goal_word, line_word, part_word, reason_word}

-- ---- the words of each

-- a node's name, or `-` for nowhere
abbrev pub place_word : Option Word → Word
place_word (Some name) = name
place_word None = codes "-"

abbrev pub part_words : PartText → List Word
part_words Idle = part_word TheIdle ∷ []
part_words (Upto place start) = part_word TheUpto ∷ place_word place ∷ decimal start ∷ []
part_words (From place start) = part_word TheFrom ∷ place_word place ∷ decimal start ∷ []

-- `*` for all nodes, or their names
abbrev pub nodes_words : NodesText → List Word
nodes_words AllNodes = codes "*" ∷ []
nodes_words (Listed names) = names

abbrev pub reason_words : ReasonText → List Word
reason_words (Empty e) = reason_word TheEmpty ∷ e ∷ []
reason_words Bound = reason_word TheBound ∷ []
reason_words (Load t r nodes) = reason_word TheLoad ∷ decimal t ∷ r ∷ nodes_words nodes
reason_words (Pair c t v w n) = reason_word ThePair ∷ decimal c ∷ decimal t ∷ v ∷ w ∷ n ∷ []
reason_words (Place c t v n) = reason_word ThePlace ∷ decimal c ∷ decimal t ∷ v ∷ n ∷ []
reason_words (Group c t) = reason_word TheGroup ∷ decimal c ∷ decimal t ∷ []
reason_words (SetLoad c t) = reason_word TheSetLoad ∷ decimal c ∷ decimal t ∷ []
reason_words (Power c t) = reason_word ThePower ∷ decimal c ∷ decimal t ∷ []
reason_words (Usable t v n) = reason_word TheUsable ∷ decimal t ∷ v ∷ n ∷ []
reason_words (Hall c t nodes) = reason_word TheHall ∷ decimal c ∷ decimal t ∷ nodes_words nodes

abbrev pub step_words : StepText → List Word
step_words (Decide e part) = line_word TheDecide ∷ e ∷ part_words part
step_words (Cut e part reason) = line_word TheCut ∷ e ∷ (part_words part ++ reason_words reason)
step_words (Fail reason) = line_word TheFail ∷ reason_words reason
step_words (Plan cost) = line_word ThePlan ∷ decimal cost ∷ []
step_words Left = line_word TheLeft ∷ []

abbrev pub goal_words : Goal → List Word
goal_words (Optimal cost) = goal_word TheOptimal ∷ decimal cost ∷ []
goal_words Infeasible = goal_word TheInfeasible ∷ []
goal_words (Undecided count) = goal_word TheUndecided ∷ decimal count ∷ []

abbrev pub line_words : LineText → List Word
line_words (Step step) = step_words step
line_words (End goal) = line_word TheEnd ∷ goal_words goal

-- words with one blank between each two
abbrev pub joined : List Word → List ℕ
joined words = join_with_byte 32 words

-- the first line of a certificate
abbrev pub header : List ℕ
header = codes "btrplan certificate 1"

-- the most bytes of a line before its newline
abbrev pub max_line : ℕ
max_line = 65536

-- ---- which texts there are: names are well-formed, numbers fit 64 bits, and a list of nodes has one

abbrev pub IsName : Word → Type 0
IsName word = IsTrue (is_name word)

abbrev pub IsNumber : ℕ → Type 0
IsNumber n = n < 2 ^ 64

abbrev pub IsPlace : Option Word → Type 0
IsPlace (Some name) = IsName name
IsPlace None = Unit {0}

abbrev pub IsPart : PartText → Type 0
IsPart Idle = Unit {0}
IsPart (Upto place start) = IsPlace place × IsNumber start
IsPart (From place start) = IsPlace place × IsNumber start

abbrev pub AreNodes : NodesText → Type 0
AreNodes AllNodes = Unit {0}
AreNodes (Listed names) = (names ≢ []) × IsTrue (list_all is_name names)

abbrev pub IsReason : ReasonText → Type 0
IsReason (Empty e) = IsName e
IsReason Bound = Unit {0}
IsReason (Load t r nodes) = IsNumber t × IsName r × AreNodes nodes
IsReason (Pair c t v w n) = IsNumber c × IsNumber t × IsName v × IsName w × IsName n
IsReason (Place c t v n) = IsNumber c × IsNumber t × IsName v × IsName n
IsReason (Group c t) = IsNumber c × IsNumber t
IsReason (SetLoad c t) = IsNumber c × IsNumber t
IsReason (Power c t) = IsNumber c × IsNumber t
IsReason (Usable t v n) = IsNumber t × IsName v × IsName n
IsReason (Hall c t nodes) = IsNumber c × IsNumber t × AreNodes nodes

abbrev pub IsStep : StepText → Type 0
IsStep (Decide e part) = IsName e × IsPart part
IsStep (Cut e part reason) = IsName e × IsPart part × IsReason reason
IsStep (Fail reason) = IsReason reason
IsStep (Plan cost) = IsNumber cost
IsStep Left = Unit {0}

abbrev pub IsGoal : Goal → Type 0
IsGoal (Optimal cost) = IsNumber cost
IsGoal Infeasible = Unit {0}
IsGoal (Undecided count) = IsNumber count

abbrev pub IsLine : LineText → Type 0
IsLine (Step step) = IsStep step
IsLine (End goal) = IsGoal goal

-- the bytes, without the newline, are the line
pub record Spells (bytes : List ℕ) (line : LineText) : Type 0 where
  pub line_is : IsLine line
  pub text : bytes ≡ joined (line_words line)
