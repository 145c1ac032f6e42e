-- Which kinds of reasons each rule covers.
use Rattle.std.specs.Prelude.{Bool, true, false}
use Rattle.rule_place.specs.Words.{ReasonKind, Empty, Bound, Load, Pair, Place, Group, SetLoad, Power, Usable, Hall}

-- machines where the node is not usable
abbrev pub needed_kinds : ReasonKind → Bool
needed_kinds Empty = false
needed_kinds Bound = false
needed_kinds Load = false
needed_kinds Pair = false
needed_kinds Place = false
needed_kinds Group = false
needed_kinds SetLoad = false
needed_kinds Power = false
needed_kinds Usable = true
needed_kinds Hall = false

-- machines where a constraint lets them not be
abbrev pub forbidden_kinds : ReasonKind → Bool
forbidden_kinds Empty = false
forbidden_kinds Bound = false
forbidden_kinds Load = false
forbidden_kinds Pair = false
forbidden_kinds Place = true
forbidden_kinds Group = false
forbidden_kinds SetLoad = false
forbidden_kinds Power = false
forbidden_kinds Usable = false
forbidden_kinds Hall = false
