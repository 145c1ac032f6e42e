use Rattle.std.proofs.Common.{◌≡◌, rules}
use Rattle.command_demo.specs.Prelude.{Infeasible}
use Rattle.command_demo.proofs.DemoAnswers.{checked_then, has_answer, never_infeasible}
use Rattle.command_demo.proofs.demonstrating.plan_and_check.Goals as goal

pub returns-then-is_infeasible-clause-ends : goal.returns-then-is_infeasible-clause-ends
returns-then-is_infeasible-clause-ends g c = λ told same printed.
    let none : c.in_ok-found.found ≡ Infeasible = search rules in
    absurd (never_infeasible c.args.seed c.args.p.now.given c.in_ok-found.found _ _ same (c.in_ok-found.ensures.written told) none)

pub returns-clause-ends : goal.returns-clause-ends
returns-clause-ends g c = λ told same printed.
    checked_then c.args.seed c.args.p.now.given c.in_ok-found.found _ _ _ printed c.check_found.result same (c.in_ok-found.ensures.written told) (c.check_found.ensures.ends told printed)

pub returns-clause-failed_read : goal.returns-clause-failed_read
returns-clause-failed_read g c = λ told failed. has_answer c.args.p.now.given c.in_ok-found.found _ _ _ (c.in_ok-found.ensures.written told) (c.check_found.ensures.desk.files_stay told)
