use Rattle.std.proofs.Common.{◌∙◌}
use Rattle.command_carry.specs.Prelude.{phases_of}
use Rattle.command_carry.proofs.RepairAnswers.{from_first, known_execution}
use Rattle.command_carry.proofs.repairing.follow_all.Goals as goal

pub returns-clause-follows : goal.returns-clause-follows
returns-clause-follows g c = λ told.
    from_first c.args.p.now.given c.args.m.now.plan c.args.plan.now (phases_of c.args.m.now) (phases_of c.follow-followed.new.m) (g.I.Source.rest c.args.input.now) (g.I.Source.rest c.follow-followed.new.input) c.follow-followed.result c.requires.plan c.requires.first
    (c.follow-followed.ensures.follows told)

pub returns-clause-execution : goal.returns-clause-execution
returns-clause-execution g c =
    known_execution c.follow-followed.new.m c.args.p.now c.args.plan.now c.known.ensures (c.follow-followed.ensures.work.problem ∙ c.requires.problem) (c.follow-followed.ensures.work.plan ∙ c.requires.plan)
