use Rattle.std.proofs.Common.{◌∙◌, ap, string_bytes}
use Rattle.command_carry.specs.Prelude.{Ends, repaired_line}
use Rattle.command_carry.proofs.RepairAnswers.{repaired}
use Rattle.command_carry.proofs.repairing.end_left.Goals as goal

pub returns-clause-ends : goal.returns-clause-ends
unfolding Ends
returns-clause-ends g c = λ told p plan phases nothing goes_on printed.
    repaired p plan phases c.args.new_instance.now c.args.new_plan.now c.args.problem.now c.args.kept.now (g.D.Desk.files c.args.desk.now) (g.D.Desk.files c.write_left.new.desk) printed (string_bytes c.in_ok-line.line) nothing goes_on
    (c.in_ok-write_left.ensures.written told) c.in_ok-write_left.ensures.instance_reads c.in_ok-write_left.ensures.plan_reads (c.in_ok-line.ensures ∙ ap repaired_line c.cost.ensures.cost)
