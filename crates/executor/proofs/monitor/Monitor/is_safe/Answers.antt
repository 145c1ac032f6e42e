use Rattle.std.proofs.Common.{subst}
use Rattle.executor.specs.Prelude.{choices_of, IsSafe, phases_in, phases_of}
use Rattle.executor.proofs.SafeLemmas.{executions_are_safe}
use Rattle.executor.proofs.monitor.Monitor.is_safe.Goals as goal

pub returns : goal.returns
returns c =
    let known = c.self.invariant in
    let m = c.self.inside in
    let p = m.problem.now in
    subst (λ x. IsSafe x.problem.given (choices_of x.plan) (phases_of x)) c.self.view_is
    (executions_are_safe p.given p.sound m.plan.now known.plan known.valid (phases_in p.given m.phases.items) known.execution)
