use Rattle.commands.proofs.Causing.{answered}
use Rattle.commands.proofs.run.run.Goals as goal

pub returns-clause-causes : goal.returns-clause-causes
returns-clause-causes g c = c.finish.ensures.causes _ _ _ _ c.answer-ended.ensures.causes

pub returns-clause-answer : goal.returns-clause-answer
returns-clause-answer g c = λ desk_tells sink_tells nothing memory.
    c.finish.ensures.answer sink_tells (answered _ _ _ (returns-clause-causes g c) nothing memory) _ _ _ _ (c.answer-ended.ensures.ends desk_tells sink_tells)
