use Rattle.rule_setload.proofs.amounts.AmountKeeper.refutes.Goals as goal

pub returns-in-SetLoad : goal.returns-in-SetLoad
returns-in-SetLoad c = λ on.
    let over = c.exceeds.ensures on in
    rw c.in-SetLoad.is (record { may = tt; refuted = record { named = (over.0, over.1); says = over.2 } })
