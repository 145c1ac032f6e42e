use Rattle.std.proofs.Common.{string_bytes}
use Rattle.command_parts.specs.Prelude.{Ends}
use Rattle.command_parts.proofs.PartsAnswers.{plans}
use Rattle.command_parts.proofs.planning_parts.end_answer.Goals as goal

pub returns-clause-ends : goal.returns-clause-ends
unfolding Ends
returns-clause-ends g c = λ told groups budget split answered is printed.
    plans c.args.plan_file.now c.args.certificate.now budget c.args.p.now.given groups c.args.answer.now.whole c.args.answer.now.certificate.items (g.D.Desk.files c.args.desk.now) (g.D.Desk.files c.write_answer.new.desk) printed (string_bytes c.in_ok-line.line) _
    split answered is (c.in_ok-write_answer.ensures.written told) c.in_ok-write_answer.ensures.reads_back c.in_ok-line.ensures c.outcome_of.ensures
