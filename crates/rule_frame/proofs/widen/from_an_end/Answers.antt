use Rattle.rule_frame.proofs.Prelude.{◌+◌, ◌-◌, ◌≤◌, subst, arith, nat_tests, FailHolds, in_part, keeping, part_past, sets}
use Rattle.rule_frame.proofs.WidenLemmas.{further_holds}
use Rattle.rule_frame.proofs.widen.from_an_end.Goals as goal

pub steps-preserved-in-Some : goal.steps-preserved-in-Some
steps-preserved-in-Some g c =
    let near : c.steps.best + c.stride.result ≤ c.args.row.hi - c.args.row.lo = grind (arith, nat_tests, c.stride.ensures.within, c.steps.invariant.within, c.steps-test.true) in
    let fails : FailHolds c.args.p.now.given (keeping c.args.e (in_part (part_past c.args.row c.args.from_first (c.steps.best + c.stride.result))) (sets c.args.g.now)) c.in-Some.r
    = subst (λ y. FailHolds c.args.p.now.given (keeping c.args.e (in_part y) (sets c.args.g.now)) c.in-Some.r) c.part_past-part.ensures c.in-Some.ensures in
    record {
      within = c.steps.invariant.within;
      near = near;
      holds = further_holds c.args.p.now.given (sets c.args.g.now) c.args.e c.args.row c.args.from_first c.steps.best (c.steps.best + c.stride.result) c.steps.found c.in-Some.r (grind (arith)) c.steps.invariant.holds fails;
    }
