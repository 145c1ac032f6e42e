use Rattle.std.proofs.Common.{◌≡◌, Ok}
use Rattle.command_checkparts.specs.Prelude.{split_in}
use Rattle.command_frame.proofs.Public.{value_is_no_fault}
use Rattle.command_checkparts.proofs.CheckPartsAnswers.{ends_split}
use Rattle.command_checkparts.proofs.checking_parts.check_problem.Goals as goal

pub returns-clause-ends : goal.returns-clause-ends
returns-clause-ends g c = λ told printed.
    let groups = c.in_ok-g.g.groups.items in
    let read : split_in c.args.p.now.given (g.D.Desk.files c.args.desk.now) c.args.groups_file.now ≡ Ok groups = c.in_ok-g.ensures.reading told (value_is_no_fault _ _) in
    ends_split c.args.groups_file.now c.args.plan_file.now c.args.certificate.now c.args.p.now.given groups _ _ _ printed c.check_plan.result (c.in_ok-g.ensures.desk.files_stay told) read
    (c.check_plan.ensures.ends told printed)
