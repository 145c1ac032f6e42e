-- The first words of lines, parts, reasons and goals.
use Rattle.std.specs.Prelude.{ℕ, List, codes, Option}
use Rattle.std.specs.List.{find}
use Rattle.std.specs.Str.{bytes_eq}
use Rattle.reasons.specs.declared.reason.ReasonKind.{ReasonKind}
use Rattle.reasons.specs.declared.reason.ReasonKind.TheVariants.{Empty, Bound, Load, Pair, Place, Group, SetLoad, Power, Usable, Hall}
use Rattle.cert_text.specs.declared.kinds.LineKind.{LineKind}
use Rattle.cert_text.specs.declared.kinds.LineKind.TheVariants.{Decide, Cut, Fail, Plan, Left, End}
use Rattle.cert_text.specs.declared.kinds.PartKind.{PartKind}
use Rattle.cert_text.specs.declared.kinds.PartKind.TheVariants.{Idle, Upto, From}
use Rattle.cert_text.specs.declared.kinds.GoalKind.{GoalKind}
use Rattle.cert_text.specs.declared.kinds.GoalKind.TheVariants.{Optimal, Infeasible, Undecided}

-- the bytes of a word
abbrev pub Word : Type 0
Word = List ℕ

unfoldable pub line_word : LineKind → Word
line_word Decide = codes "decide"
line_word Cut = codes "cut"
line_word Fail = codes "fail"
line_word Plan = codes "plan"
line_word Left = codes "left"
line_word End = codes "end"

unfoldable pub part_word : PartKind → Word
part_word Idle = codes "idle"
part_word Upto = codes "upto"
part_word From = codes "from"

unfoldable pub goal_word : GoalKind → Word
goal_word Optimal = codes "optimal"
goal_word Infeasible = codes "infeasible"
goal_word Undecided = codes "undecided"

unfoldable pub reason_word : ReasonKind → Word
reason_word Empty = codes "empty"
reason_word Bound = codes "bound"
reason_word Load = codes "load"
reason_word Pair = codes "pair"
reason_word Place = codes "place"
reason_word Group = codes "group"
reason_word SetLoad = codes "setload"
reason_word Power = codes "power"
reason_word Usable = codes "usable"
reason_word Hall = codes "hall"

-- the first of the kinds that has the word
abbrev pub named : {K : Type 0} → (K → Word) → List K → Word → Option K
named word kinds given = find (λ kind. bytes_eq (word kind) given) kinds
