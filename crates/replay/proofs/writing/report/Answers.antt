use Rattle.std.proofs.Common.{◌∙◌}
use Rattle.replay.proofs.Texts.{prefix_of_lines}
use Rattle.replay.proofs.writing.report.Goals as goal

pub returns-in_err-write_instants-clause-cut : goal.returns-in_err-write_instants-clause-cut
returns-in_err-write_instants-clause-cut g c = λ tells.
    prefix_of_lines _ _ c.judge-answer.result _ _ (record { valid = c.judge-answer.ensures.valid; broken = c.judge-answer.ensures.broken }) (rw (c.deref.ensures.value ∙ c.in_ok-instants.ensures.events) at (c.write_instants.ensures.cut tells))

pub returns-in_err-line-clause-cut : goal.returns-in_err-line-clause-cut
returns-in_err-line-clause-cut g c = λ tells.
    prefix_of_lines _ _ c.judge-answer.result _ _ (record { valid = c.judge-answer.ensures.valid; broken = c.judge-answer.ensures.broken }) (rw (c.deref.ensures.value ∙ c.in_ok-instants.ensures.events) at (c.write_instants.ensures.cut tells))
