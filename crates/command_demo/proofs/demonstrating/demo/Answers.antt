use Rattle.std.proofs.Common.{◌≡◌, Result, Ok, Err, rules, subst, sym}
use Rattle.command_demo.specs.Prelude.{demo_instance, Ending, Ends, Fault, generated, instance_in, IsDemonstrated, outside}
use Rattle.command_demo.proofs.DemoAnswers.{answered, leaves_planned, not_refused, read_back, unread_planned}
use Rattle.command_frame.proofs.Public.{value_is_no_fault}
use Rattle.command_demo.proofs.demonstrating.demo.Goals as goal

pub returns-in_err-problem-clause-ends : goal.returns-in_err-problem-clause-ends
returns-in_err-problem-clause-ends g c = λ told printed.
    let is : c.from_residual-in_err-problem.result ≡ Err c.in_err-problem.field-0.0 = search rules in
    let read = read_back c.args.seed _ _ (c.in_ok-write_generated.ensures.written told) c.in_ok-write_generated.ensures.reads_back in
    subst (λ (ended : Result Ending Fault). Ends (IsDemonstrated c.args.seed (outside (g.D.Desk.files c.args.desk.now) printed)) (outside (g.D.Desk.files c.problem_at.new.desk) printed) ended) (sym is)
    (not_refused _ _ (λ p. p.given) (instance_in (g.D.Desk.files c.write_generated.new.desk) demo_instance) (generated c.args.seed) c.in_err-problem.field-0.0 read c.in_err-problem.ensures.desk.kind (c.in_err-problem.ensures.reading told))

pub returns-clause-ends : goal.returns-clause-ends
returns-clause-ends g c = λ told printed.
    let problem = c.in_ok-problem.problem.given in
    let read : instance_in (g.D.Desk.files c.write_generated.new.desk) demo_instance ≡ Ok problem = c.in_ok-problem.ensures.reading told (value_is_no_fault _ _) in
    answered c.args.seed _ _ _ _ printed problem c.plan_and_check.result (c.in_ok-write_generated.ensures.written told) c.in_ok-write_generated.ensures.reads_back (c.in_ok-problem.ensures.desk.files_stay told) read
    (λ same. c.plan_and_check.ensures.ends told same printed)

pub returns-clause-left : goal.returns-clause-left
returns-clause-left g c = λ told.
    let problem = c.in_ok-problem.problem.given in
    let read : instance_in (g.D.Desk.files c.write_generated.new.desk) demo_instance ≡ Ok problem = c.in_ok-problem.ensures.reading told (value_is_no_fault _ _) in
    leaves_planned c.args.seed _ _ _ _ problem (c.in_ok-write_generated.ensures.cut told) (c.in_ok-write_generated.ensures.written told) c.in_ok-write_generated.ensures.reads_back (c.in_ok-problem.ensures.desk.files_stay told) read (c.plan_and_check.ensures.left told)

pub returns-clause-failed_read : goal.returns-clause-failed_read
returns-clause-failed_read g c = λ told failed.
    let problem = c.in_ok-problem.problem.given in
    let read : instance_in (g.D.Desk.files c.write_generated.new.desk) demo_instance ≡ Ok problem = c.in_ok-problem.ensures.reading told (value_is_no_fault _ _) in
    unread_planned c.args.seed _ _ _ _ problem (c.in_ok-write_generated.ensures.written told) c.in_ok-write_generated.ensures.reads_back (c.in_ok-problem.ensures.desk.files_stay told) read (c.plan_and_check.ensures.failed_read told failed)
