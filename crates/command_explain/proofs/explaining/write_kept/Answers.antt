use Rattle.command_explain.proofs.ExplainAnswers.{kept_written}
use Rattle.command_explain.proofs.explaining.write_kept.Goals as goal

pub returns-clause-written : goal.returns-clause-written
returns-clause-written g c = λ told.
    kept_written c.args.core.now c.args.certificate.now c.args.p.now.given c.in_ok-problem.problem.given c.args.kept.now c.args.text.now c.in_ok-core_text.core_text.items (g.D.Desk.files c.args.desk.now) (g.D.Desk.files c.write_two.new.desk) c.write_two.result c.in_ok-problem.problem.sound c.in_ok-problem.ensures
    c.in_ok-core_text.ensures.text c.in_ok-core_text.ensures.reads_back (rw c.deref.ensures.value at (c.write_two.ensures.written told))
