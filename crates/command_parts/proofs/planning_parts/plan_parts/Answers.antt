use Rattle.command_parts.proofs.planning_parts.plan_parts.Goals as goal

pub returns-clause-ends : goal.returns-clause-ends
returns-clause-ends g c = λ told printed.
    c.end_answer.ensures.ends told c.args.g.now.groups.items c.args.budget c.requires.split.split (rw c.deref.ensures.value at c.in_ok-answer.ensures.answered) c.in_ok-answer.ensures.true_of printed
