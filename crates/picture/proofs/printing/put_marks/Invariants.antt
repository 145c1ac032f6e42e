use Rattle.base.proofs.Public.{◌≡◌, ◌++◌, flat_map, take}
use Rattle.picture.specs.Prelude.{mark_text}
use Rattle.picture.proofs.printing.put_marks.Given as goal

abbrev pub invariant-loop-mark : goal.invariant-loop-mark
invariant-loop-mark l = l.paper.text.items ≡ l.initial.paper.text.items ++ flat_map mark_text (take l.mark-index l.marks)
