use Rattle.std.proofs.Common.{◌≡◌, Ok, Err, inl, inr, refl, ◌∙◌, subst, rules}
use Rattle.command_carry.specs.Prelude.{choices_of, Executes, Files, instance_in, outside, plan_in, told as told_of}
use Rattle.command_carry.proofs.ExecuteAnswers.{part_printed, starts, takes_executed, takes_no_plan}
use Rattle.command_carry.proofs.Causing.{causes_of_rest}
use Rattle.command_frame.proofs.Public.{ends_from_plan, prints_from_plan, value_is_no_fault}
use Rattle.command_carry.proofs.executing.execute.Goals as goal

pub returns-clause-ends : goal.returns-clause-ends
returns-clause-ends g c = λ told sink_told.
    let problem = c.in_ok-problem.problem.given in
    let read : instance_in (g.D.Desk.files c.args.desk.now) c.args.instance.now ≡ Ok problem = c.in_ok-problem.ensures.reading told (value_is_no_fault _ _) in
    let plan_read : plan_in problem (g.D.Desk.files c.problem_at.new.desk) c.args.plan_file.now ≡ Ok (choices_of c.in_ok-plan.plan) = c.in_ok-plan.ensures.reading told (value_is_no_fault _ _) in
    ends_from_plan (Executes (told_of g.I.Source.tells (g.I.Source.rest c.args.input.now))) c.args.instance.now c.args.plan_file.now _ _ _ (g.O.Sink.written c.args.out.now) _ problem (choices_of c.in_ok-plan.plan) c.end_execution.result (c.in_ok-problem.ensures.desk.files_stay told) (c.in_ok-plan.ensures.desk.files_stay told) read plan_read
    (c.end_execution.ensures.ends sink_told (g.D.Desk.files c.plan_at.new.desk))

pub returns-clause-printed : goal.returns-clause-printed
returns-clause-printed g c = λ told sink_told.
    let problem = c.in_ok-problem.problem.given in
    let read : instance_in (g.D.Desk.files c.args.desk.now) c.args.instance.now ≡ Ok problem = c.in_ok-problem.ensures.reading told (value_is_no_fault _ _) in
    let plan_read : plan_in problem (g.D.Desk.files c.problem_at.new.desk) c.args.plan_file.now ≡ Ok (choices_of c.in_ok-plan.plan) = c.in_ok-plan.ensures.reading told (value_is_no_fault _ _) in
    let source = told_of g.I.Source.tells (g.I.Source.rest c.args.input.now) in
    let files = g.D.Desk.files c.plan_at.new.desk in
    prints_from_plan (Executes source) c.args.instance.now c.args.plan_file.now _ _ _ (g.O.Sink.written c.args.out.now) _ problem (choices_of c.in_ok-plan.plan) (c.in_ok-problem.ensures.desk.files_stay told) (c.in_ok-plan.ensures.desk.files_stay told) read plan_read
    (part_printed source problem (choices_of c.in_ok-plan.plan) files _ _ (c.end_execution.ensures.stays sink_told) (c.end_execution.ensures.part sink_told files))

pub returns-clause-takes : goal.returns-clause-takes
returns-clause-takes g c = λ told source_told sink_told.
    let problem = c.in_ok-problem.problem.given in
    let read : instance_in (g.D.Desk.files c.args.desk.now) c.args.instance.now ≡ Ok problem = c.in_ok-problem.ensures.reading told (value_is_no_fault _ _) in
    let plan_read : plan_in problem (g.D.Desk.files c.problem_at.new.desk) c.args.plan_file.now ≡ Ok (choices_of c.in_ok-plan.plan) = c.in_ok-plan.ensures.reading told (value_is_no_fault _ _) in
    let there : plan_in problem (g.D.Desk.files c.args.desk.now) c.args.plan_file.now ≡ Ok (choices_of c.in_ok-plan.plan) = subst (λ (files : Files). plan_in problem files c.args.plan_file.now ≡ Ok (choices_of c.in_ok-plan.plan)) (c.in_ok-problem.ensures.desk.files_stay told) plan_read in
    takes_executed c.args.instance.now c.args.plan_file.now _ _ _ problem (choices_of c.in_ok-plan.plan) c.end_execution.result read there (c.end_execution.ensures.took source_told sink_told (g.D.Desk.files c.plan_at.new.desk))

pub returns-clause-source : goal.returns-clause-source
returns-clause-source g c = λ told not_starts.
    let problem = c.in_ok-problem.problem.given in
    let read : instance_in (g.D.Desk.files c.args.desk.now) c.args.instance.now ≡ Ok problem = c.in_ok-problem.ensures.reading told (value_is_no_fault _ _) in
    let plan_read : plan_in problem (g.D.Desk.files c.problem_at.new.desk) c.args.plan_file.now ≡ Ok (choices_of c.in_ok-plan.plan) = c.in_ok-plan.ensures.reading told (value_is_no_fault _ _) in
    let there : plan_in problem (g.D.Desk.files c.args.desk.now) c.args.plan_file.now ≡ Ok (choices_of c.in_ok-plan.plan) = subst (λ (files : Files). plan_in problem files c.args.plan_file.now ≡ Ok (choices_of c.in_ok-plan.plan)) (c.in_ok-problem.ensures.desk.files_stay told) plan_read in
    c.end_execution.ensures.source (λ valid. not_starts (starts (g.D.Desk.files c.args.desk.now) c.args.instance.now c.args.plan_file.now problem (choices_of c.in_ok-plan.plan) read there valid))

pub returns-in_err-plan-clause-takes : goal.returns-in_err-plan-clause-takes
returns-in_err-plan-clause-takes g c = λ told source_told sink_told.
    let problem = c.in_ok-problem.problem.given in
    let files = g.D.Desk.files c.args.desk.now in
    let read : instance_in files c.args.instance.now ≡ Ok problem = c.in_ok-problem.ensures.reading told (value_is_no_fault _ _) in
    let is : c.from_residual-in_err-plan.result ≡ Err c.in_err-plan.field-0.0 = search rules in
    rw is
    (takes_no_plan choices_of c.args.instance.now c.args.plan_file.now _ (outside files (g.O.Sink.written c.args.out.now)) (outside (g.D.Desk.files c.plan_at.new.desk) (g.O.Sink.written c.args.out.now)) problem c.in_err-plan.field-0.0 c.in_err-plan.ensures.desk.kind
    (record { rest = refl; printed = refl; faults = refl }) read (rw (c.in_ok-problem.ensures.desk.files_stay told) at (c.in_err-plan.ensures.reading told)))

pub returns-clause-causes : goal.returns-clause-causes
returns-clause-causes g c =
    let first : g.D.Desk.read_faults c.problem_at.new.desk ≡ g.D.Desk.read_faults c.args.desk.now = elim c.in_ok-problem.ensures.desk.causes.kept [ inl e ↦ e | inr e ↦ absurd (value_is_no_fault _ _ e) ] in
    let then : g.D.Desk.read_faults c.plan_at.new.desk ≡ g.D.Desk.read_faults c.problem_at.new.desk = elim c.in_ok-plan.ensures.desk.causes.kept [ inl e ↦ e | inr e ↦ absurd (value_is_no_fault _ _ e) ] in
    causes_of_rest (g.D.Desk.read_faults c.args.desk.now) (g.D.Desk.read_faults c.plan_at.new.desk) (g.I.Source.faults c.args.input.now) (g.O.Sink.faults c.args.out.now) (g.D.Desk.write_faults c.args.desk.now) (g.I.Source.faults c.end_execution.new.input) (g.D.Desk.write_faults c.plan_at.new.desk) (g.O.Sink.faults c.end_execution.new.out) c.end_execution.result (then ∙ first)
    (c.in_ok-plan.ensures.desk.writes_kept ∙ c.in_ok-problem.ensures.desk.writes_kept)
    c.end_execution.ensures.causes
