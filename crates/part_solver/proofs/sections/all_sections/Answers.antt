use Rattle.base.proofs.Public.{◌∙◌}
use Rattle.part_solver.proofs.SectionLemmas.{text_more}
use Rattle.part_solver.proofs.sections.all_sections.Goals as goal

pub loop-i-preserved : goal.loop-i-preserved
loop-i-preserved c = c.in_ok-put.ensures ∙ text_more c.args.solved.now c.loop-i.i c.loop-i.text.items c.loop-i.invariant
