-- Which kinds of reasons the rule covers.
use Rattle.std.specs.Prelude.{Bool, true, false}
use Rattle.reasons.specs.declared.reason.ReasonKind.{ReasonKind}
use Rattle.reasons.specs.declared.reason.ReasonKind.TheVariants.{Empty, Bound, Load, Pair, Place, Group, SetLoad, Power, Usable, Hall}

-- machines that a constraint keeps apart
abbrev pub pair_kinds : ReasonKind → Bool
pair_kinds Empty = false
pair_kinds Bound = false
pair_kinds Load = false
pair_kinds Pair = true
pair_kinds Place = false
pair_kinds Group = false
pair_kinds SetLoad = false
pair_kinds Power = false
pair_kinds Usable = false
pair_kinds Hall = false
