-- Parts of the choices of an element.
use Rattle.std.specs.Prelude.{Bool, true, false, ◌&&◌, not, nat_le, Option, Some, None}
use Rattle.cluster.specs.declared.choices.Choice.{Choice}
use Rattle.cluster.specs.declared.choices.Choice.TheVariants.{Idle as Stay, Act}
use Rattle.domains.specs.declared.parts.Part.{Part}
use Rattle.domains.specs.declared.parts.Part.TheVariants.{Idle, Upto, From}
use Rattle.domains.specs.declared.parts.Side.{Side}
use Rattle.domains.specs.declared.parts.Side.TheVariants.{Inside, Outside}
use Rattle.domains.specs.Choices.{same_place}

-- whether a choice is in a part
abbrev pub in_part : Part → Choice → Bool
in_part Idle Stay = true
in_part Idle (Act place start) = false
in_part (Upto p s) Stay = false
in_part (Upto p s) (Act place start) = same_place place p && nat_le start s
in_part (From p s) Stay = false
in_part (From p s) (Act place start) = same_place place p && nat_le s start

-- whether it is not
abbrev pub out_of_part : Part → Choice → Bool
out_of_part part c = not (in_part part c)

-- whether a choice is on a side of a part
abbrev pub on_side : Side → Part → Choice → Bool
on_side Inside part = in_part part
on_side Outside part = out_of_part part

-- whether a choice stays where a part is left out, if there is one
abbrev pub stays : Option Part → Choice → Bool
stays None c = true
stays (Some part) c = out_of_part part c
