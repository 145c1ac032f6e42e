use Rattle.std.proofs.Common.{◌≡◌, Ok, Err, inl, inr, refl, ◌∙◌, subst, rules}
use Rattle.command_carry.specs.Prelude.{choices_of, Files, instance_in, LeavesRepaired, outside, plan_in, RepairsPlan, told as told_of}
use Rattle.command_carry.proofs.ExecuteAnswers.{no_plan_there, starts}
use Rattle.command_carry.proofs.RepairAnswers.{takes_followed, takes_unread}
use Rattle.command_carry.proofs.Causing.{causes_of_events}
use Rattle.command_frame.proofs.Public.{ends_from_plan, left_from_plan, value_is_no_fault}
use Rattle.command_carry.proofs.repairing.repair.Goals as goal

pub returns-clause-ends : goal.returns-clause-ends
returns-clause-ends g c = λ told printed.
    let problem = c.in_ok-problem.problem.given in
    let read : instance_in (g.D.Desk.files c.args.desk.now) c.args.instance.now ≡ Ok problem = c.in_ok-problem.ensures.reading told (value_is_no_fault _ _) in
    let plan_read : plan_in problem (g.D.Desk.files c.problem_at.new.desk) c.args.plan_file.now ≡ Ok (choices_of c.in_ok-plan.plan) = c.in_ok-plan.ensures.reading told (value_is_no_fault _ _) in
    ends_from_plan (RepairsPlan (told_of g.I.Source.tells (g.I.Source.rest c.args.input.now)) c.args.new_instance.now c.args.new_plan.now) c.args.instance.now c.args.plan_file.now _ _ _ printed _ problem (choices_of c.in_ok-plan.plan) c.end_events.result (c.in_ok-problem.ensures.desk.files_stay told) (c.in_ok-plan.ensures.desk.files_stay told) read plan_read
    (c.end_events.ensures.ends told printed)

pub returns-clause-left : goal.returns-clause-left
returns-clause-left g c = λ told.
    let problem = c.in_ok-problem.problem.given in
    let read : instance_in (g.D.Desk.files c.args.desk.now) c.args.instance.now ≡ Ok problem = c.in_ok-problem.ensures.reading told (value_is_no_fault _ _) in
    let plan_read : plan_in problem (g.D.Desk.files c.problem_at.new.desk) c.args.plan_file.now ≡ Ok (choices_of c.in_ok-plan.plan) = c.in_ok-plan.ensures.reading told (value_is_no_fault _ _) in
    left_from_plan (LeavesRepaired c.args.new_instance.now c.args.new_plan.now) c.args.instance.now c.args.plan_file.now _ _ _ _ problem (choices_of c.in_ok-plan.plan) (c.in_ok-problem.ensures.desk.files_stay told) (c.in_ok-plan.ensures.desk.files_stay told) read plan_read (c.end_events.ensures.left told)

pub returns-clause-takes : goal.returns-clause-takes
returns-clause-takes g c = λ told source_told printed.
    let problem = c.in_ok-problem.problem.given in
    let plan = choices_of c.in_ok-plan.plan in
    let files = g.D.Desk.files c.args.desk.now in
    let kept : g.D.Desk.files c.plan_at.new.desk ≡ files = c.in_ok-plan.ensures.desk.files_stay told ∙ c.in_ok-problem.ensures.desk.files_stay told in
    let read : instance_in files c.args.instance.now ≡ Ok problem = c.in_ok-problem.ensures.reading told (value_is_no_fault _ _) in
    let plan_read : plan_in problem (g.D.Desk.files c.problem_at.new.desk) c.args.plan_file.now ≡ Ok plan = c.in_ok-plan.ensures.reading told (value_is_no_fault _ _) in
    let there : plan_in problem files c.args.plan_file.now ≡ Ok plan = subst (λ (start : Files). plan_in problem start c.args.plan_file.now ≡ Ok plan) (c.in_ok-problem.ensures.desk.files_stay told) plan_read in
    takes_followed c.args.instance.now c.args.plan_file.now c.args.new_instance.now c.args.new_plan.now _ (outside files printed) _ problem plan c.end_events.result read there (rw kept at (c.end_events.ensures.took told source_told printed))

pub returns-in_err-plan-clause-takes : goal.returns-in_err-plan-clause-takes
returns-in_err-plan-clause-takes g c = λ told source_told printed.
    let problem = c.in_ok-problem.problem.given in
    let files = g.D.Desk.files c.args.desk.now in
    let read : instance_in files c.args.instance.now ≡ Ok problem = c.in_ok-problem.ensures.reading told (value_is_no_fault _ _) in
    let is : c.from_residual-in_err-plan.result ≡ Err c.in_err-plan.field-0.0 = search rules in
    rw is
    (takes_unread c.args.instance.now c.args.plan_file.now c.args.new_instance.now c.args.new_plan.now _ (outside files printed) (outside (g.D.Desk.files c.plan_at.new.desk) printed) c.in_err-plan.field-0.0 c.in_err-plan.ensures.desk.kind (record { rest = refl; printed = refl; faults = refl })
    (no_plan_there choices_of files c.args.instance.now c.args.plan_file.now problem c.in_err-plan.field-0.0 read (rw (c.in_ok-problem.ensures.desk.files_stay told) at (c.in_err-plan.ensures.reading told))))

pub returns-clause-source : goal.returns-clause-source
returns-clause-source g c = λ told not_starts.
    let problem = c.in_ok-problem.problem.given in
    let plan = choices_of c.in_ok-plan.plan in
    let files = g.D.Desk.files c.args.desk.now in
    let kept : g.D.Desk.files c.plan_at.new.desk ≡ files = c.in_ok-plan.ensures.desk.files_stay told ∙ c.in_ok-problem.ensures.desk.files_stay told in
    let read : instance_in files c.args.instance.now ≡ Ok problem = c.in_ok-problem.ensures.reading told (value_is_no_fault _ _) in
    let plan_read : plan_in problem (g.D.Desk.files c.problem_at.new.desk) c.args.plan_file.now ≡ Ok plan = c.in_ok-plan.ensures.reading told (value_is_no_fault _ _) in
    let there : plan_in problem files c.args.plan_file.now ≡ Ok plan = subst (λ (start : Files). plan_in problem start c.args.plan_file.now ≡ Ok plan) (c.in_ok-problem.ensures.desk.files_stay told) plan_read in
    c.end_events.ensures.source (λ valid. not_starts (starts files c.args.instance.now c.args.plan_file.now problem plan read there valid))

pub returns-clause-causes : goal.returns-clause-causes
returns-clause-causes g c = λ sink.
    let first : g.D.Desk.read_faults c.problem_at.new.desk ≡ g.D.Desk.read_faults c.args.desk.now = elim c.in_ok-problem.ensures.desk.causes.kept [ inl e ↦ e | inr e ↦ absurd (value_is_no_fault _ _ e) ] in
    let then : g.D.Desk.read_faults c.plan_at.new.desk ≡ g.D.Desk.read_faults c.problem_at.new.desk = elim c.in_ok-plan.ensures.desk.causes.kept [ inl e ↦ e | inr e ↦ absurd (value_is_no_fault _ _ e) ] in
    let writes : g.D.Desk.write_faults c.plan_at.new.desk ≡ g.D.Desk.write_faults c.args.desk.now = c.in_ok-plan.ensures.desk.writes_kept ∙ c.in_ok-problem.ensures.desk.writes_kept in
    causes_of_events (g.D.Desk.read_faults c.args.desk.now) (g.D.Desk.read_faults c.end_events.new.desk) (g.I.Source.faults c.args.input.now) (g.I.Source.faults c.end_events.new.input) (g.D.Desk.write_faults c.args.desk.now) (g.D.Desk.write_faults c.plan_at.new.desk) (g.D.Desk.write_faults c.end_events.new.desk) sink c.end_events.result
    (c.end_events.ensures.reads_kept ∙ then ∙ first) writes c.end_events.ensures.causes
