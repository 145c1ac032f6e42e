use Rattle.cert_check.proofs.Prelude.{IsTrue, rules, option_copied, bytes_of, choices_handed}
use Rattle.cert_check.proofs.SoundLemmas.{yes_is_sound}
use Rattle.cert_check.proofs.certificate.check.Goals as goal

pub returns-clause-sound : goal.returns-clause-sound
returns-clause-sound g c =
    yes_is_sound c.args.p.now.given c.args.p.now.sound (choices_handed (option_copied c.args.plan)) (c.is_fit.ensures.handed_in (search (rules, c.if-not-is_fit.false)))
    c.args.strict (IsTrue g.D.Desk.tells) (bytes_of (g.D.Desk.files c.args.desk.now c.args.name.now)) c.check_lines.result c.check_lines.ensures.verdict
