use Rattle.prop_core.proofs.CoverLemmas.{covered_exactly}
use Rattle.prop_core.proofs.cover.covered.Goals as goal

pub returns : goal.returns
returns g c = rw c.covers_each.ensures (covered_exactly _ _)
