use Rattle.std.proofs.Common.{rules, ◌≡◌, Ok}
use Rattle.command_decide.specs.Prelude.{instance_in, IsPlanned}
use Rattle.command_decide.proofs.PlanAnswers.{leaves_nothing}
use Rattle.command_frame.proofs.Public.{ends_from}
use Rattle.command_decide.proofs.planning.plan.Goals as goal

pub returns-clause-ends : goal.returns-clause-ends
returns-clause-ends g c = λ told printed.
    let read : instance_in (g.D.Desk.files c.args.desk.now) c.args.instance.now ≡ Ok c.in_ok-problem.problem.given = search rules in
    ends_from (IsPlanned c.args.plan_file.now c.args.certificate.now c.args.budget) c.args.instance.now _ _ _ printed c.in_ok-problem.problem.given c.write_answer.result (c.in_ok-problem.ensures.desk.files_stay told) read (c.write_answer.ensures.ends told printed)

pub returns-in_err-problem-clause-left : goal.returns-in_err-problem-clause-left
returns-in_err-problem-clause-left g c = λ told.
    leaves_nothing c.args.plan_file.now c.args.certificate.now c.args.budget (instance_in (g.D.Desk.files c.args.desk.now) c.args.instance.now) _ _ (c.in_err-problem.ensures.desk.files_stay told)
