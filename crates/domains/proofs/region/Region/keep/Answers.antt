use Rattle.domains.proofs.RegionLemmas.{with-back}
use Rattle.domains.proofs.region.Region.keep.Goals as goal

pub returns-clause-undone : goal.returns-clause-undone
returns-clause-undone c = rw (c.set.ensures.new, c.set.ensures.old) (with-back c.args.self.now c.args.e c.inside-inside.result)
