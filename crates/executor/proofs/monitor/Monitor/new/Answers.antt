use Rattle.std.proofs.Common.{sym, subst, refl, rules}
use Rattle.executor.specs.Prelude.{choices_of, IsExecution, IsValid}
use Rattle.executor.proofs.{StepLemmas.begins_well, TableLemmas.first_told}
use Rattle.executor.proofs.monitor.Monitor.new.Goals as goal

pub invariant_of-result : goal.invariant_of-result
invariant_of-result c =
    let p = c.args.p.now.given in
    let plan = choices_of c.args.plan.now in
    let first = c.in-Ok-first_phases.ensures in
    record {
      plan = c.requires;
      valid = search rules;
      execution =
          subst (IsExecution p plan) (sym (first_told p c.args.plan.now c.requires c.in-Ok-first_phases.phases.items first.rows first.first)) (begins_well p plan);
      rows = first.rows;
      times = c.in-Ok.ensures;
    }

pub returns : goal.returns
returns c =
    let p = c.args.p.now.given in
    let first = c.in-Ok-first_phases.ensures in
    let valid : IsValid p (choices_of c.args.plan.now) = search rules in
    (refl, refl, first_told p c.args.plan.now c.requires c.in-Ok-first_phases.phases.items first.rows first.first, valid)
