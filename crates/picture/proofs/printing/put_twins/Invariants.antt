use Rattle.base.proofs.Public.{◌≡◌, ◌++◌, flat_map, take}
use Rattle.picture.specs.Prelude.{twin_text}
use Rattle.picture.proofs.printing.put_twins.Given as goal

abbrev pub invariant-loop-twin : goal.invariant-loop-twin
invariant-loop-twin l = l.paper.text.items ≡ l.initial.paper.text.items ++ flat_map twin_text (take l.twin-index l.twins)
