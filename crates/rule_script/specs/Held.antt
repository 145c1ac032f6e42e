-- Helping only: the elements that are gathered, however they are kept.
use Rattle.std.specs.Prelude.{List}
use Rattle.cluster.specs.declared.ids.Element.{Element}
use Rattle.rule_script.specs.declared.gathered.Held.{Held}
use Rattle.rule_script.specs.declared.gathered.Held.TheVariants.{Short, Long}

abbrev pub held_list : Held → List Element
held_list (Short list) = list
held_list (Long long) = long.value
