use Rattle.std.proofs.Common.{◌≡◌, Ok}
use Rattle.command_report.specs.Prelude.{choices_of, instance_in, LeavesPictured, Pictures, plan_in}
use Rattle.command_frame.proofs.Public.{ends_from_plan, left_from_plan, value_is_no_fault}
use Rattle.command_report.proofs.picturing.picture.Goals as goal

pub returns-clause-ends : goal.returns-clause-ends
returns-clause-ends g c = λ told printed.
    let problem = c.in_ok-problem.problem.given in
    let read : instance_in (g.D.Desk.files c.args.desk.now) c.args.instance.now ≡ Ok problem = c.in_ok-problem.ensures.reading told (value_is_no_fault _ _) in
    let plan_read : plan_in problem (g.D.Desk.files c.problem_at.new.desk) c.args.plan_file.now ≡ Ok (choices_of c.in_ok-plan.plan) = c.in_ok-plan.ensures.reading told (value_is_no_fault _ _) in
    ends_from_plan (Pictures c.args.picture_file.now) c.args.instance.now c.args.plan_file.now _ _ _ printed _ problem (choices_of c.in_ok-plan.plan) c.end_picture.result (c.in_ok-problem.ensures.desk.files_stay told) (c.in_ok-plan.ensures.desk.files_stay told) read plan_read (c.end_picture.ensures.ends told printed)

pub returns-clause-left : goal.returns-clause-left
returns-clause-left g c = λ told.
    let problem = c.in_ok-problem.problem.given in
    let read : instance_in (g.D.Desk.files c.args.desk.now) c.args.instance.now ≡ Ok problem = c.in_ok-problem.ensures.reading told (value_is_no_fault _ _) in
    let plan_read : plan_in problem (g.D.Desk.files c.problem_at.new.desk) c.args.plan_file.now ≡ Ok (choices_of c.in_ok-plan.plan) = c.in_ok-plan.ensures.reading told (value_is_no_fault _ _) in
    left_from_plan (LeavesPictured c.args.picture_file.now) c.args.instance.now c.args.plan_file.now _ _ _ _ problem (choices_of c.in_ok-plan.plan) (c.in_ok-problem.ensures.desk.files_stay told) (c.in_ok-plan.ensures.desk.files_stay told) read plan_read (c.end_picture.ensures.left told)
