-- How marks look: the classes of each style.
use Rattle.std.specs.Prelude.{ℕ, List, codes}
use Rattle.picture.specs.Shades.{class_of_shade}
use Rattle.picture.specs.declared.style.Style.{Style}
use Rattle.picture.specs.declared.style.Style.TheVariants.{Arrives, BadPeak, BadVerdict, Beside, BesideLeft, Broken, Busy, Capacity, Changes, Dark, End, Full, Grid, Heat, Leaves, Moves, Name, Off, OffKey, Over, Power, Separator, Small, Tick, TickLeft, TickMiddle, Unusable, Verdict, White, WhiteEnd}

abbrev pub class_of : Style → List ℕ
class_of Moves = codes "moves"
class_of Arrives = codes "arrives"
class_of Leaves = codes "leaves"
class_of Changes = codes "changes"
class_of Power = codes "power"
class_of Off = codes "off"
class_of OffKey = codes "off key"
class_of Busy = codes "busy"
class_of Over = codes "over"
class_of Grid = codes "grid"
class_of Separator = codes "separator"
class_of Capacity = codes "capacity"
class_of Unusable = codes "unusable"
class_of Broken = codes "broken"
class_of Verdict = codes "verdict"
class_of BadVerdict = codes "verdict bad"
class_of Small = codes "small"
class_of Name = codes "name"
class_of Tick = codes "tick"
class_of TickLeft = codes "tick left"
class_of TickMiddle = codes "tick middle"
class_of Full = codes "tick full"
class_of BadPeak = codes "tick bad"
class_of Dark = codes "label"
class_of White = codes "label white"
class_of Beside = codes "beside"
class_of BesideLeft = codes "beside left"
class_of End = codes "end"
class_of WhiteEnd = codes "end white"
class_of (Heat shade) = class_of_shade shade
