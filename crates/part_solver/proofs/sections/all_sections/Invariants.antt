use Rattle.std.specs.List.{flat_map}
use Rattle.base.proofs.Public.{◌≡◌, map, range_with_len}
use Rattle.cert_parts.specs.Sections.{section_text}
use Rattle.part_solver.specs.Answers.{section_at}
use Rattle.part_solver.proofs.sections.all_sections.Given as goal

abbrev pub invariant-loop-i : goal.invariant-loop-i
invariant-loop-i l = l.text.items ≡ flat_map section_text (map (section_at l.solved) (range_with_len 0 l.i))
