use Rattle.std.proofs.Common.{sym, subst}
use Rattle.executor.specs.Prelude.{choices_of, IsExecution, phases_in}
use Rattle.executor.proofs.monitor.Monitor.next_ready.Goals as goal

pub first_that_may_start-requires-clause-execution : goal.first_that_may_start-requires-clause-execution
first_that_may_start-requires-clause-execution c =
    let m = c.self.inside in
    let p = m.problem.now.given in
    subst (λ t. IsExecution p (choices_of m.plan.now) (phases_in p t)) (sym c.deref-2.ensures.value) c.self.invariant.execution
