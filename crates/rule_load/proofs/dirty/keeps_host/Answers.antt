use Rattle.rule_load.proofs.dirty.keeps_host.Goals as goal

pub kept_as_long-requires-clause-fewer : goal.kept_as_long-requires-clause-fewer
kept_as_long-requires-clause-fewer c = rw c.domain-domain.ensures.domain c.requires.fewer
