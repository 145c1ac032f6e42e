-- Helping only: what a change leaves clean.
use Rattle.std.specs.Prelude.{List}
use Rattle.rule_frame.specs.Words.{Instance, IsClean, IsElement, IsLocal, IsUnseen, Scope, Sets, Watch, Choice, Element, putting}
use Rattle.rule_frame.specs.Changes.{IsStill}

-- a clean watch stays clean where a change does not weigh on it
abbrev pub StillClean : Type 1
StillClean = (w : Watch) (p : Instance) (s : Sets) (x : Element) (old : List Choice) → IsLocal w → IsElement p x → IsStill p w.scope x old (s x) → IsClean w p (putting x old s) → IsClean w p s

-- a change of an element that is not looked at does not weigh
abbrev pub UnseenStill : Type 1
UnseenStill = (p : Instance) (k : Scope) (x : Element) (old now : List Choice) → IsUnseen k x → IsStill p k x old now
