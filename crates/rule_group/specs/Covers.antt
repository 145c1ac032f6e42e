-- Which kinds of reasons the rule covers.
use Rattle.std.specs.Prelude.{Bool, true, false}
use Rattle.reasons.specs.declared.reason.ReasonKind.{ReasonKind}
use Rattle.reasons.specs.declared.reason.ReasonKind.TheVariants.{Empty, Bound, Load, Pair, Place, Group, SetLoad, Power, Usable, Hall}

-- constraints on whole groups of machines
abbrev pub group_kinds : ReasonKind → Bool
group_kinds Empty = false
group_kinds Bound = false
group_kinds Load = false
group_kinds Pair = false
group_kinds Place = false
group_kinds Group = true
group_kinds SetLoad = false
group_kinds Power = false
group_kinds Usable = false
group_kinds Hall = false
