use Rattle.std.proofs.Common.{ap}
use Rattle.command_frame.specs.Answer.{outside}
use Rattle.command_demo.proofs.demonstrating.check_found.Goals as goal

pub returns-clause-ends : goal.returns-clause-ends
returns-clause-ends g c = λ told printed.
    c.conclude.ensures.ends (outside (g.D.Desk.files c.args.desk.now) printed) (outside (g.D.Desk.files c.check_problem-checked.new.desk) printed)
    (ap (λ files. outside files printed) (c.check_problem-checked.ensures.desk.files_stay told)) (c.check_problem-checked.ensures.ends told printed)
