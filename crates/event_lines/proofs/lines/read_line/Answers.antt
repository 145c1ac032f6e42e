use Rattle.std.proofs.Common.{◌≡◌, ◌∷◌, ◌≤◌, length, rules}
use Rattle.event_lines.proofs.LineLemmas.{begins_more}
use Rattle.event_lines.proofs.lines.read_line.Goals as goal

pub returns-then-is_err-clause-line : goal.returns-then-is_err-clause-line
returns-then-is_err-clause-line g c = λ told.
    let next : g.I.Source.rest c.bytes.input ≡ c.in-Some.byte ∷ g.I.Source.rest c.read_byte.new.input = rw c.in-Some.is at (c.in-Ok.ensures.byte told) in
    let few : length c.bytes.line.items ≤ 65536 = search rules in
    begins_more _ c.bytes.line.items _ _ c.in-Some.byte (c.bytes.invariant.bytes told) next c.bytes.invariant.one c.if-byte-eq10.false few
