-- How heat looks: the shade of a node, and the class of each shade.
use Rattle.std.specs.Prelude.{ℕ, Bool, nat_le, ◌==◌, List, codes, if◌then◌else◌}
use Rattle.picture.specs.declared.marks.Heat.{Heat}
use Rattle.picture.specs.declared.marks.Power.{Power}
use Rattle.picture.specs.declared.marks.Power.TheVariants.{On, Off, Turning}
use Rattle.picture.specs.declared.shade.Shade.{Shade}
use Rattle.picture.specs.declared.shade.Shade.TheVariants.{Hatched, Edged, Faint, Light, Medium, Strong, Packed, Overfull}

abbrev pub class_of_shade : Shade → List ℕ
class_of_shade Hatched = codes "hatched"
class_of_shade Edged = codes "edged"
class_of_shade Faint = codes "faint"
class_of_shade Light = codes "light"
class_of_shade Medium = codes "medium"
class_of_shade Strong = codes "strong"
class_of_shade Packed = codes "packed"
class_of_shade Overfull = codes "overfull"

abbrev pub number_of_shade : Shade → ℕ
number_of_shade Hatched = 0
number_of_shade Edged = 1
number_of_shade Faint = 2
number_of_shade Light = 3
number_of_shade Medium = 4
number_of_shade Strong = 5
number_of_shade Packed = 6
number_of_shade Overfull = 7

abbrev pub is_same_shade : Shade → Shade → Bool
is_same_shade a b = number_of_shade a == number_of_shade b

-- the shade of so many parts of 100
abbrev pub shade_of_parts : ℕ → Shade
shade_of_parts parts =
    if nat_le 101 parts then Overfull
    else (if nat_le 90 parts then Packed else (if nat_le 75 parts then Strong else (if nat_le 50 parts then Medium else (if nat_le 25 parts then Light else Faint))))

abbrev pub shade_while : Power → ℕ → Shade
shade_while Off parts = Hatched
shade_while Turning parts = Edged
shade_while On parts = shade_of_parts parts

-- a node that is off is hatched and one that turns has an edge, however full they are
abbrev pub shade_of : Heat → Shade
shade_of heat = shade_while heat.power heat.parts
