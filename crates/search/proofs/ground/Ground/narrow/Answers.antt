use Rattle.std.proofs.Common.{List, map, ◌∙◌, ap, sym}
use Rattle.search.specs.Prelude.{least_cost, RegionView, sets}
use Rattle.search.proofs.RegionLemmas.{agreed_next, fewer_next, region_next, trail_next}
use Rattle.search.proofs.ground.Ground.narrow.Goals as goal

pub told-requires-clause-legal : goal.told-requires-clause-legal
told-requires-clause-legal c =
    let t = c.in_ok-before.ensures in
    rw c.region-region.ensures ((region_next c.args.p.now.given c.args.self.now.trail c.apply_told.new.self c.args.change c.in_ok-before.before c.apply_told.new.kept c.requires.ground.trail c.requires.element t.machines t.nodes t.sets).legal)

pub told-requires-clause-narrowed : goal.told-requires-clause-narrowed
told-requires-clause-narrowed c =
    let t = c.in_ok-before.ensures in
    rw c.region-region.ensures (fewer_next c.args.p.now.given c.args.self.now.trail c.apply_told.new.self c.args.change c.in_ok-before.before c.apply_told.new.kept c.requires.ground.trail c.requires.element t.machines t.nodes t.sets t.before)

pub told-requires-clause-agreed : goal.told-requires-clause-agreed
told-requires-clause-agreed c =
    let t = c.in_ok-before.ensures in
    rw c.region-region.ensures (agreed_next c.args.p.now.given c.args.self.now.trail c.apply_told.new.self c.args.change c.in_ok-before.before c.apply_told.new.kept c.requires.ground.trail c.requires.element t.machines t.nodes t.sets t.before _ c.requires.ground.top)

pub returns-clause-ground : goal.returns-clause-ground
returns-clause-ground c =
    let t = c.in_ok-before.ensures in
    record {
      trail = trail_next c.args.p.now.given c.args.self.now.trail c.apply_told.new.self c.args.change c.in_ok-before.before c.apply_told.new.kept c.requires.ground.trail c.requires.element t.machines t.nodes t.sets t.marks;
      top = rw c.region-region.ensures at c.told.ensures.top;
      older = c.told.ensures.older ∙ c.requires.ground.older ∙ ap (λ (ms : List RegionView). map (λ m. least_cost c.args.p.now.given (sets m)) ms) (sym t.marks);
    }
