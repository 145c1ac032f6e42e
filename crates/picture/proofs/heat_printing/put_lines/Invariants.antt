use Rattle.base.proofs.Public.{◌≡◌, ◌++◌, flat_map, take}
use Rattle.picture.specs.Prelude.{action_line_text}
use Rattle.picture.proofs.heat_printing.put_lines.Given as goal

abbrev pub invariant-loop-line : goal.invariant-loop-line
invariant-loop-line l = l.paper.text.items ≡ l.initial.paper.text.items ++ flat_map action_line_text (take l.line-index l.lines)
