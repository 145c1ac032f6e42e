use Rattle.closing.proofs.shared.change_instants.next_change_instant.Goals as goal

pub returns-in-OfAll-clause-change_instants : goal.returns-in-OfAll-clause-change_instants
returns-in-OfAll-clause-change_instants c = rw c.in-OfAll.is c.next_of_all.ensures.change_instants

pub returns-in-Of-clause-change_instants : goal.returns-in-Of-clause-change_instants
returns-in-Of-clause-change_instants c = rw c.in-Of.is c.next_of_some.ensures.change_instants
