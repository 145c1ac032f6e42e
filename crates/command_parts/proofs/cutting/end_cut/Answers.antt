use Rattle.std.proofs.Common.{string_bytes}
use Rattle.command_parts.specs.Prelude.{Ends}
use Rattle.command_parts.proofs.CutAnswers.{part_written}
use Rattle.command_parts.proofs.cutting.end_cut.Goals as goal

pub returns-clause-ends : goal.returns-clause-ends
unfolding Ends
returns-clause-ends g c = λ told p groups split within count is printed.
    part_written c.args.part_file.now p groups c.args.part.now.given c.args.i c.args.count (g.D.Desk.files c.args.desk.now) (g.D.Desk.files c.write_problem.new.desk) printed (string_bytes c.in_ok-line.line) split within count is (c.in_ok-write_problem.ensures.written told)
    c.in_ok-write_problem.ensures.reads_back c.in_ok-line.ensures
