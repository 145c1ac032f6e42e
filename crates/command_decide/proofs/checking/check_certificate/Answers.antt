use Rattle.std.specs.Option.{option_copied}
use Rattle.cert_model.specs.Walks.{choices_handed}
use Rattle.command_decide.proofs.CheckAnswers.{line_ends}
use Rattle.command_decide.proofs.checking.check_certificate.Goals as goal

pub returns-in-Err-Line-clause-ends : goal.returns-in-Err-Line-clause-ends
returns-in-Err-Line-clause-ends g c = λ told printed.
    line_ends c.args.p.now.given c.args.certificate.now c.args.strict (choices_handed (option_copied c.args.plan)) _ _ printed c.in-Err-Line.fault c.refusal_of.result
    (c.in-Err-Line.ensures.files told) (rw c.in-Err-Line.field-0-is at (c.in-Err-Line.ensures.verdict told)) c.refusal_of.ensures
