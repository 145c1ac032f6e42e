use Rattle.base.proofs.Public.{◌≡◌, take, if◌then◌else◌}
use Rattle.cluster.specs.declared.ids.Element.{Element}
use Rattle.rule_script.specs.Elements.{entry_of}
use Rattle.rule_script.specs.Marks.{in_list}
use Rattle.rule_script.proofs.places.Places.set_all.Given as goal

abbrev pub invariant-loop-e : goal.invariant-loop-e
invariant-loop-e l = (x : Element) → entry_of l.self x ≡ (if in_list (take l.e-index l.list) x then l.number else entry_of l.fn.self x)
