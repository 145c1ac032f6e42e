use Rattle.cert_parts.proofs.FoundLemmas.{names_part}
use Rattle.cert_parts.proofs.lines.part_named.Goals as goal

pub returns-in-Some : goal.returns-in-Some
returns-in-Some c = names_part c.args.line.now c.in-Some.word.now c.number.result c.in-Some.ensures c.number.ensures
