use Rattle.rule_group.proofs.places.is_served.Goals as goal

pub returns-then-serves : goal.returns-then-serves
returns-then-serves c = λ yes. (c.loop-i.i, c.serves.ensures c.if-serves.true)
