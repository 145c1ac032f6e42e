use Rattle.base.proofs.Public.{◌≡◌, ◌++◌, flat_map, take}
use Rattle.picture.specs.Prelude.{row_text}
use Rattle.picture.proofs.heat_printing.put_rows.Given as goal

abbrev pub invariant-loop-row : goal.invariant-loop-row
invariant-loop-row l = l.paper.text.items ≡ l.initial.paper.text.items ++ flat_map (row_text l.span) (take l.row-index l.rows)
