use Rattle.base.proofs.Public.{◌≤◌, arith, nat_tests}
use Rattle.rule_load.proofs.StayLemmas.{row_came}
use Rattle.rule_load.proofs.dirty.came_by.Goals as goal

pub returns-then-m-a : goal.returns-then-m-a
returns-then-m-a c = λ late d h.
    let by : c.in-Row.row.hi ≤ c.args.a.last = grind (arith, nat_tests, late) in
    row_came c.args.a.node c.args.a.last c.in-Row.row c.in-At.m c.in-At.is (omega (arith, c.if-m-a.true)) by d (rw c.in-Row.is at h)
