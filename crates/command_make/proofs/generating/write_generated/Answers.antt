use Rattle.command_make.proofs.GenerateAnswers.{reads_back}
use Rattle.command_make.proofs.generating.write_generated.Goals as goal

pub returns-clause-reads_back : goal.returns-clause-reads_back
returns-clause-reads_back g c = reads_back c.args.seed c.in_ok-problem.problem.given c.write_problem.result c.in_ok-problem.ensures.problem c.write_problem.ensures.reads_back
