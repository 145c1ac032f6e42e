use Rattle.std.proofs.Common.{string_bytes}
use Rattle.command_make.specs.Prelude.{Ends}
use Rattle.command_make.proofs.ScriptAnswers.{scripted}
use Rattle.command_make.proofs.scripting.end_script.Goals as goal

pub returns-clause-ends : goal.returns-clause-ends
unfolding Ends
returns-clause-ends g c = λ told p adds is printed.
    scripted c.args.out_file.now p c.args.problem.now.given adds c.args.count (g.D.Desk.files c.args.desk.now) (g.D.Desk.files c.write_problem.new.desk) printed (string_bytes c.in_ok-line.line) is (c.in_ok-write_problem.ensures.written told) c.in_ok-line.ensures
