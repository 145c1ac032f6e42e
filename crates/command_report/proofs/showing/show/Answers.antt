use Rattle.std.proofs.Common.{◌≡◌, Ok}
use Rattle.command_report.specs.Prelude.{choices_of, instance_in, Lists, plan_in}
use Rattle.command_frame.proofs.Public.{ends_from_plan, prints_from_plan, value_is_no_fault}
use Rattle.command_report.proofs.showing.show.Goals as goal

pub returns-clause-ends : goal.returns-clause-ends
returns-clause-ends g c = λ told sink_told.
    let problem = c.in_ok-problem.problem.given in
    let read : instance_in (g.D.Desk.files c.args.desk.now) c.args.instance.now ≡ Ok problem = c.in_ok-problem.ensures.reading told (value_is_no_fault _ _) in
    let plan_read : plan_in problem (g.D.Desk.files c.problem_at.new.desk) c.args.plan_file.now ≡ Ok (choices_of c.in_ok-plan.plan) = c.in_ok-plan.ensures.reading told (value_is_no_fault _ _) in
    ends_from_plan Lists c.args.instance.now c.args.plan_file.now _ _ _ (g.O.Sink.written c.args.out.now) _ problem (choices_of c.in_ok-plan.plan) c.end_listing.result (c.in_ok-problem.ensures.desk.files_stay told) (c.in_ok-plan.ensures.desk.files_stay told) read plan_read (c.end_listing.ensures.ends sink_told (g.D.Desk.files c.plan_at.new.desk))

pub returns-clause-printed : goal.returns-clause-printed
returns-clause-printed g c = λ told sink_told.
    let problem = c.in_ok-problem.problem.given in
    let read : instance_in (g.D.Desk.files c.args.desk.now) c.args.instance.now ≡ Ok problem = c.in_ok-problem.ensures.reading told (value_is_no_fault _ _) in
    let plan_read : plan_in problem (g.D.Desk.files c.problem_at.new.desk) c.args.plan_file.now ≡ Ok (choices_of c.in_ok-plan.plan) = c.in_ok-plan.ensures.reading told (value_is_no_fault _ _) in
    prints_from_plan Lists c.args.instance.now c.args.plan_file.now _ _ _ (g.O.Sink.written c.args.out.now) _ problem (choices_of c.in_ok-plan.plan) (c.in_ok-problem.ensures.desk.files_stay told) (c.in_ok-plan.ensures.desk.files_stay told) read plan_read (c.end_listing.ensures.printed sink_told (g.D.Desk.files c.plan_at.new.desk))
