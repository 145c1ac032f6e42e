use Rattle.std.proofs.Common.{string_bytes}
use Rattle.command_explain.specs.Prelude.{Ends}
use Rattle.command_explain.proofs.ExplainAnswers.{open_said}
use Rattle.command_explain.proofs.explaining.end_open.Goals as goal

pub returns-clause-ends : goal.returns-clause-ends
unfolding Ends
returns-clause-ends g c = λ told budget is printed.
    open_said c.args.core.now c.args.certificate.now budget c.args.p.now.given (g.D.Desk.files c.args.desk.now) (g.D.Desk.files c.write_kept.new.desk) printed (string_bytes c.in_ok-line.line) c.args.kept.now c.args.text.now is (c.in_ok-write_kept.ensures.written told) c.in_ok-line.ensures
