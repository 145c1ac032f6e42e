use Rattle.rule_pair.proofs.unmoved.is_unmoved_in.Goals as goal

pub is_unmoved-requires-clause-fewer : goal.is_unmoved-requires-clause-fewer
is_unmoved-requires-clause-fewer c = rw c.domain.ensures.domain c.requires.fewer
