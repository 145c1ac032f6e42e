use Rattle.std.proofs.Common.{◌≡◌, ◌∙◌, Ok, ap}
use Rattle.command_decide.specs.Prelude.{any_plan_in, choices_handed}
use Rattle.command_decide.proofs.{AcceptAnswers.same_choices, CheckAnswers.checked}
use Rattle.command_frame.proofs.Public.{value_is_no_fault}
use Rattle.command_decide.proofs.checking.check_problem.Goals as goal

pub returns-clause-ends : goal.returns-clause-ends
returns-clause-ends g c = λ told printed.
    let read : any_plan_in c.args.p.now.given (g.D.Desk.files c.args.desk.now) c.args.plan_file.now ≡ Ok (choices_handed c.in_ok-plan.plan) = c.in_ok-plan.ensures.reading told (value_is_no_fault _ _) ∙ ap Ok (same_choices c.in_ok-plan.plan) in
    checked c.args.plan_file.now c.args.certificate.now c.args.strict _ _ _ printed c.args.p.now.given (choices_handed c.in_ok-plan.plan) c.check_certificate.result (c.in_ok-plan.ensures.desk.files_stay told) read
    (rw c.as_ref.ensures.value at (c.check_certificate.ensures.ends told printed))
