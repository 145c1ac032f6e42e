use Rattle.slices.proofs.plan.end_in.Goals as goal

pub end_of-requires-clause-legal : goal.end_of-requires-clause-legal
end_of-requires-clause-legal c = rw c.choice.ensures (c.requires.plan.legal c.args.e c.requires.element)
