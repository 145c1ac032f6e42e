use Rattle.std.proofs.Common.{◌≡◌, Ok, option_map}
use Rattle.std.specs.Option.{option_copied}
use Rattle.command_checkparts.specs.Prelude.{certificates_in, choices_of}
use Rattle.command_frame.proofs.Public.{value_is_no_fault}
use Rattle.command_checkparts.proofs.CheckPartsAnswers.{ends_certificates}
use Rattle.command_checkparts.proofs.checking_parts.check_certificates.Goals as goal

pub returns-clause-ends : goal.returns-clause-ends
returns-clause-ends g c = λ told printed.
    let text = c.in_ok-text.text.items in
    let read : certificates_in (g.D.Desk.files c.args.desk.now) c.args.certificate.now ≡ Ok text = c.in_ok-text.ensures.reading told (value_is_no_fault _ _) in
    ends_certificates c.args.certificate.now c.args.p.now.given c.args.g.now.groups.items (option_map choices_of (option_copied c.args.plan)) text _ _ printed c.judge.result (c.in_ok-text.ensures.desk.files_stay told) read
    (λ files. rw c.deref.ensures.value at (c.judge.ensures.ends files printed))
