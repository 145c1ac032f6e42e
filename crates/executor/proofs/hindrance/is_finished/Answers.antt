use Rattle.executor.specs.Phases.{phases_in}
use Rattle.executor.proofs.{GoingOn.ends_as_planned, TableLemmas.all_by_place}
use Rattle.executor.proofs.hindrance.is_finished.Goals as goal

pub returns-clause-ended : goal.returns-clause-ended
returns-clause-ended c =
    let all = all_by_place c.args.p.now.given c.args.phases.now c.requires.rows in
    ((λ h. all.0 (c.all_ended.ensures.0 h)), (λ h. c.all_ended.ensures.1 (all.1 h)))

pub returns-clause-planned : goal.returns-clause-planned
returns-clause-planned c = λ h.
    ends_as_planned c.args.p.now.given c.args.plan.now c.requires.plan (phases_in c.args.p.now.given c.args.phases.now) c.requires.execution
    ((returns-clause-ended c).0 h)
