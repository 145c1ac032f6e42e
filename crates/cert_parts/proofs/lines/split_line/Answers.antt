use Rattle.std.proofs.lemmas.List.{nil_from_length}
use Rattle.base.proofs.Public.{◌≡◌, ◌∙◌, ◌+◌, ◌-◌, sym, arith, drop, length, length-drop, length-take, take, take_all}
use Rattle.cert_parts.proofs.FoundLemmas.{line_found, line_unended}
use Rattle.cert_parts.proofs.lines.split_line.Goals as goal

pub returns-in-Some : goal.returns-in-Some
returns-in-Some c =
    let bytes = c.args.bytes.now in
    let at = c.in-Some.at in
    let all : take (length bytes - (at + 1)) (drop (at + 1) bytes) ≡ drop (at + 1) bytes = take_all (length bytes - (at + 1)) (drop (at + 1) bytes) (omega (arith, length-drop (at + 1) bytes)) in
    rw all (line_found bytes at (sym c.newline_at.ensures ∙ c.in-Some.is))

pub returns-in-None : goal.returns-in-None
returns-in-None c =
    let bytes = c.args.bytes.now in
    let rest = take (length bytes - length bytes) (drop (length bytes) bytes) in
    line_unended bytes rest (sym c.newline_at.ensures ∙ c.in-None.is)
    (nil_from_length rest (omega (arith, length-take (length bytes - length bytes) (drop (length bytes) bytes), length-drop (length bytes) bytes)))
