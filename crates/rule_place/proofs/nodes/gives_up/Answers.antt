use Rattle.rule_place.proofs.nodes.gives_up.Goals as goal

pub leaves_as_soon-requires-clause-fewer : goal.leaves_as_soon-requires-clause-fewer
leaves_as_soon-requires-clause-fewer c = rw c.domain-domain.ensures.domain c.requires.fewer
