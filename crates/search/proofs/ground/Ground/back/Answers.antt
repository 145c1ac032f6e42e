use Rattle.prop_core.proofs.Public.{trail_back}
use Rattle.search.proofs.RegionLemmas.{sums_back}
use Rattle.search.proofs.ground.Ground.back.Goals as goal

pub returns-clause-ground : goal.returns-clause-ground
returns-clause-ground c =
    let sums = sums_back c.args.p.now.given c.args.self.now.trail c.back.new.self c.args.self.now.bound.older _ _ c.requires.ground.older c.back.ensures c.back-2.ensures in
    record {
      trail = trail_back c.args.p.now.given c.args.self.now.trail c.back.new.self c.requires.ground.trail c.back.ensures;
      top = sums.0;
      older = sums.1;
    }
