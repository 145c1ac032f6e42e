use Rattle.std.proofs.Common.{◌≡◌, Ok}
use Rattle.command_explain.specs.Prelude.{instance_in, IsExplained}
use Rattle.command_explain.proofs.ExplainAnswers.{leaves_nothing}
use Rattle.command_frame.proofs.Public.{ends_from, value_is_no_fault}
use Rattle.command_explain.proofs.explaining.explain.Goals as goal

pub returns-clause-ends : goal.returns-clause-ends
returns-clause-ends g c = λ told printed.
    let problem = c.in_ok-problem.problem.given in
    let read : instance_in (g.D.Desk.files c.args.desk.now) c.args.instance.now ≡ Ok problem = c.in_ok-problem.ensures.reading told (value_is_no_fault _ _) in
    ends_from (IsExplained c.args.core.now c.args.certificate.now c.args.budget) c.args.instance.now _ _ _ printed problem c.end_explained.result (c.in_ok-problem.ensures.desk.files_stay told) read (c.end_explained.ensures.ends told printed)

pub returns-in_err-problem-clause-left : goal.returns-in_err-problem-clause-left
returns-in_err-problem-clause-left g c = λ told.
    leaves_nothing c.args.instance.now c.args.core.now c.args.certificate.now c.args.budget _ _ (c.in_err-problem.ensures.desk.files_stay told)
