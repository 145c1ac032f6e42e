use Rattle.prop_core.proofs.Public.{all_told}
use Rattle.search.proofs.levels.narrow_all.Goals as goal

pub returns-clause-follow : goal.returns-clause-follow
returns-clause-follow g c = all_told _ _ _ _ _ _ c.requires.follow (rw c.region.ensures at c.in_ok-tell_all.ensures.told) c.in_ok-before.ensures.marks
