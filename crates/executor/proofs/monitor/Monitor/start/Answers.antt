use Rattle.std.proofs.Common.{subst}
use Rattle.executor.specs.Prelude.{choices_of, MayStart, phases_in, Start}
use Rattle.executor.proofs.StepLemmas.{steps_keep}
use Rattle.executor.proofs.monitor.Monitor.start.Goals as goal

pub invariant_of-self : goal.invariant_of-self
invariant_of-self c =
    let m = c.self.inside in
    let known = c.self.invariant in
    let p = m.problem.now.given in
    let may : MayStart p (choices_of m.plan.now) (phases_in p m.phases.items) c.args.e =
    subst (λ t. MayStart p (choices_of m.plan.now) (phases_in p t) c.args.e) c.deref-3.ensures.value c.in_default-hindrance.ensures
    in
    record {
      plan = known.plan;
      valid = known.valid;
      execution = steps_keep p (choices_of m.plan.now) (phases_in p m.phases.items) _ (Start c.args.e) known.execution (may, c.move_to.ensures.moves);
      rows = c.move_to.ensures.rows;
      times = known.times;
    }
