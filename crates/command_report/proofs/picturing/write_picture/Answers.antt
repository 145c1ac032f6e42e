use Rattle.command_report.specs.Prelude.{choices_of}
use Rattle.command_report.proofs.PictureAnswers.{has_picture, picture_cut}
use Rattle.command_report.proofs.picturing.write_picture.Goals as goal

pub returns-clause-written : goal.returns-clause-written
returns-clause-written g c = λ told.
    has_picture c.args.picture_file.now c.args.p.now.given (choices_of c.args.plan.now) (g.D.Desk.files c.args.desk.now) (g.D.Desk.files c.write_whole.new.desk) c.in_ok-text.text.items c.deref.result.now c.write_whole.result c.in_ok-text.ensures c.deref.ensures.value (c.write_whole.ensures.others told) (c.write_whole.ensures.written told)

pub returns-clause-left : goal.returns-clause-left
returns-clause-left g c = λ told.
    picture_cut c.args.picture_file.now c.args.p.now.given (choices_of c.args.plan.now) (g.D.Desk.files c.args.desk.now) (g.D.Desk.files c.write_whole.new.desk) c.in_ok-text.text.items c.in_ok-text.ensures (rw c.deref.ensures.value at (c.write_whole.ensures.cut told)) (c.write_whole.ensures.others told)
