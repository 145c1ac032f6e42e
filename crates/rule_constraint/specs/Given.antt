-- Which kind of reasons a constraint gives, by its form.
use Rattle.std.specs.Prelude.{Option, Some, None}
use Rattle.rule_constraint.specs.Words.{Allowed, Apart, Bounded, Form, form_of, HasPair, HasPlace, Instance, InTurn, IsGroup, IsPower, IsSetLoad, Ordered, Powered, Settled, Snapshot, Together, Constraint, ReasonKind, Empty, Bound, Load, Pair, Place, Group, SetLoad, Power, Usable, Hall}

-- the kind of the reasons that constraints of a form give where they are broken; none where nothing is left to ask
abbrev pub kind_of : Form → Option ReasonKind
kind_of (Apart separation) = Some Pair
kind_of (Allowed vs places) = Some Place
kind_of (Together vs groups) = Some Group
kind_of (Ordered before after) = Some Group
kind_of (InTurn vs) = Some Group
kind_of (Bounded weight ns amount) = Some SetLoad
kind_of (Powered ns amount) = Some Power
kind_of Settled = None

abbrev pub reason_kind : Constraint → Option ReasonKind
reason_kind k = kind_of (form_of k)

-- what breaks a constraint, by the kind of reasons that say so; the other five kinds are none of constraints, or of one as a whole
abbrev pub IsBrokenBy : Instance → Snapshot → Constraint → ReasonKind → Type 0
IsBrokenBy p s k Empty = ⊥
IsBrokenBy p s k Bound = ⊥
IsBrokenBy p s k Load = ⊥
IsBrokenBy p s k Pair = HasPair p s k
IsBrokenBy p s k Place = HasPlace p s k
IsBrokenBy p s k Group = IsGroup p s k
IsBrokenBy p s k SetLoad = IsSetLoad p s k
IsBrokenBy p s k Power = IsPower p s k
IsBrokenBy p s k Usable = ⊥
IsBrokenBy p s k Hall = ⊥
