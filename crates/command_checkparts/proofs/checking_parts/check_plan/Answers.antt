use Rattle.std.proofs.Common.{◌≡◌, Ok, option_map}
use Rattle.command_checkparts.specs.Prelude.{any_plan_in, choices_of}
use Rattle.command_frame.proofs.Public.{value_is_no_fault}
use Rattle.command_checkparts.proofs.CheckPartsAnswers.{ends_plan}
use Rattle.command_checkparts.proofs.checking_parts.check_plan.Goals as goal

pub returns-clause-ends : goal.returns-clause-ends
returns-clause-ends g c = λ told printed.
    let choices = option_map choices_of c.in_ok-plan.plan in
    let read : any_plan_in c.args.p.now.given (g.D.Desk.files c.args.desk.now) c.args.plan_file.now ≡ Ok choices = c.in_ok-plan.ensures.reading told (value_is_no_fault _ _) in
    ends_plan c.args.plan_file.now c.args.certificate.now c.args.p.now.given c.args.g.now.groups.items choices _ _ _ printed c.check_certificates.result (c.in_ok-plan.ensures.desk.files_stay told) read
    (rw c.as_ref.ensures.value at (c.check_certificates.ensures.ends told printed))
