use Rattle.command_carry.specs.Prelude.{choices_of, IsFirst, outside, phases_of, running_line, SaysRest}
use Rattle.executor.specs.declared.phase.Phase.TheVariants.{Running}
use Rattle.std.proofs.Common.{◌≡◌, inr}
use Rattle.command_frame.specs.declared.status.Status.{Status}
use Rattle.command_frame.proofs.Public.{ends_with_line}
use Rattle.command_carry.proofs.RepairAnswers.{says_left, says_running}
use Rattle.command_carry.proofs.repairing.end_repair.Goals as goal

pub returns-in-Ok-clause-ends : goal.returns-in-Ok-clause-ends
returns-in-Ok-clause-ends g c = λ told printed.
    let p = c.args.p.now.given in
    let plan = choices_of c.args.plan.now in
    let phases = phases_of c.args.m.now in
    says_left p plan phases c.args.new_instance.now c.args.new_plan.now _ _ c.end_left.result (c.end_left.ensures.ends told p plan phases c.in-Ok.ensures.0 c.in-Ok.ensures.1 printed)

pub returns-in-Ok-clause-left : goal.returns-in-Ok-clause-left
returns-in-Ok-clause-left g c = λ told.
    inr (record { nothing_runs = c.in-Ok.ensures.0; problem = c.in-Ok.problem.given; kept = c.in-Ok.kept; goes_on = c.in-Ok.ensures.1; cut = c.end_left.ensures.left told })

pub returns-in-Err-Running-clause-ends : goal.returns-in-Err-Running-clause-ends
returns-in-Err-Running-clause-ends g c = λ told printed.
    let p = c.args.p.now.given in
    let plan = choices_of c.args.plan.now in
    let phases = phases_of c.args.m.now in
    let files = g.D.Desk.files c.args.desk.now in
    let first : IsFirst p (λ x. phases x ≡ Running) c.in-Err-Running.e = rw c.in-Err-Running.field-0-is at c.in-Err-Running.ensures in
    ends_with_line (SaysRest p plan phases c.args.new_instance.now c.args.new_plan.now (outside files printed)) (outside files printed) (running_line p c.in-Err-Running.e) Status.Negative c.say_running.result c.say_running.ensures
    (says_running p plan phases c.args.new_instance.now c.args.new_plan.now c.in-Err-Running.e files printed first)

pub say_running-requires : goal.say_running-requires
say_running-requires g c =
    let first : IsFirst c.args.p.now.given (λ x. phases_of c.args.m.now x ≡ Running) c.in-Err-Running.e = rw c.in-Err-Running.field-0-is at c.in-Err-Running.ensures in
    first.listed
