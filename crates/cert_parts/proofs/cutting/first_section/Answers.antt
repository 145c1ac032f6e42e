use Rattle.base.proofs.Public.{rules}
use Rattle.cert_parts.proofs.SectionLemmas.{no_section, section_taken}
use Rattle.cert_parts.proofs.cutting.first_section.Goals as goal

pub returns-in-None : goal.returns-in-None
returns-in-None c = no_section c.args.bytes.now c.split_line.result.0.now c.split_line.result.1.now c.split_line.ensures c.in-None.ensures

pub returns : goal.returns
returns c =
    rw c.new.ensures
    (section_taken c.args.bytes.now c.split_line.result.0.now c.split_line.result.1.now c.in-Some.part c.split_body.result.0.now c.split_body.result.1.now c.split_line.ensures c.in-Some.ensures (search rules) c.split_body.ensures)
