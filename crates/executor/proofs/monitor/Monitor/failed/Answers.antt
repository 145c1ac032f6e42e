use Rattle.std.proofs.Common.{◌≡◌, sym, ap, ◌∙◌}
use Rattle.executor.specs.Prelude.{choices_of, Fail, phases_in, Running}
use Rattle.executor.proofs.StepLemmas.{steps_keep}
use Rattle.executor.proofs.monitor.Monitor.failed.Goals as goal

pub invariant_of-self : goal.invariant_of-self
invariant_of-self c =
    let m = c.self.inside in
    let known = c.self.invariant in
    let p = m.problem.now.given in
    let running : phases_in p m.phases.items c.args.e ≡ Running =
    ap (λ t. phases_in p t c.args.e) (sym c.deref.ensures.value) ∙ sym c.phase_of.ensures ∙ c.in-Running.is
    in
    record {
      plan = known.plan;
      valid = known.valid;
      execution = steps_keep p (choices_of m.plan.now) (phases_in p m.phases.items) _ (Fail c.args.e) known.execution (running, c.move_to.ensures.moves);
      rows = c.move_to.ensures.rows;
      times = known.times;
    }
