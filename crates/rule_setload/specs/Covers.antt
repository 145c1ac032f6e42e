-- Which kinds of reasons the rule covers.
use Rattle.std.specs.Prelude.{Bool, true, false}
use Rattle.reasons.specs.declared.reason.ReasonKind.{ReasonKind}
use Rattle.reasons.specs.declared.reason.ReasonKind.TheVariants.{Empty, Bound, Load, Pair, Place, Group, SetLoad, Power, Usable, Hall}

-- amounts on the nodes of a set
abbrev pub set_kinds : ReasonKind → Bool
set_kinds Empty = false
set_kinds Bound = false
set_kinds Load = false
set_kinds Pair = false
set_kinds Place = false
set_kinds Group = false
set_kinds SetLoad = true
set_kinds Power = true
set_kinds Usable = false
set_kinds Hall = false
