use Rattle.base.proofs.Public.{◌≡◌, ◌++◌, flat_map, take}
use Rattle.picture.specs.Prelude.{load_text}
use Rattle.picture.proofs.printing.put_curves.Given as goal

abbrev pub invariant-loop-load : goal.invariant-loop-load
invariant-loop-load l = l.paper.text.items ≡ l.initial.paper.text.items ++ flat_map (load_text l.span) (take l.load-index l.curves)
