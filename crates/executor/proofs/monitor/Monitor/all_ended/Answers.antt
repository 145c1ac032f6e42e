use Rattle.std.proofs.Common.{◌≡◌, ◌↔◌, IsTrue, sym, ap, subst, ◌∙◌}
use Rattle.executor.specs.Prelude.{AllEnded, choices_of, IsExecution, phases_in, phases_of}
use Rattle.executor.proofs.monitor.Monitor.all_ended.Goals as goal

pub is_finished-requires-clause-execution : goal.is_finished-requires-clause-execution
is_finished-requires-clause-execution c =
    let m = c.self.inside in
    let p = m.problem.now.given in
    subst (λ t. IsExecution p (choices_of m.plan.now) (phases_in p t)) (sym c.deref.ensures.value) c.self.invariant.execution

pub returns-clause-ended : goal.returns-clause-ended
returns-clause-ended c =
    let m = c.self.inside in
    let same : phases_in m.problem.now.given c.deref.result.now ≡ phases_of c.args.self.now =
    ap (phases_in m.problem.now.given) c.deref.ensures.value ∙ ap phases_of c.self.view_is
    in
    subst (λ f. IsTrue c.is_finished.result ↔ AllEnded f) same c.is_finished.ensures.ended
