use Rattle.base.proofs.Public.{option_copied, take}
use Rattle.part_check.specs.Judging.{AreTaken}
use Rattle.part_check.proofs.sections.judge_sections.Given as goal

abbrev pub invariant-sections : goal.invariant-sections
invariant-sections g l = AreTaken l.p.given l.groups (option_copied l.plan) (take l.section-index l.sections) l.seen
