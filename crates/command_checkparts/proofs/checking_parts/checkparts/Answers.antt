use Rattle.std.proofs.Common.{◌≡◌, Ok}
use Rattle.command_checkparts.specs.Prelude.{instance_in, IsCheckedByParts}
use Rattle.command_frame.proofs.Public.{ends_from, value_is_no_fault}
use Rattle.command_checkparts.proofs.checking_parts.checkparts.Goals as goal

pub returns-clause-ends : goal.returns-clause-ends
returns-clause-ends g c = λ told printed.
    let problem = c.in_ok-problem.problem.given in
    let read : instance_in (g.D.Desk.files c.args.desk.now) c.args.instance.now ≡ Ok problem = c.in_ok-problem.ensures.reading told (value_is_no_fault _ _) in
    ends_from (IsCheckedByParts c.args.groups_file.now c.args.plan_file.now c.args.certificate.now) c.args.instance.now _ _ _ printed problem c.check_problem.result (c.in_ok-problem.ensures.desk.files_stay told) read (c.check_problem.ensures.ends told printed)
