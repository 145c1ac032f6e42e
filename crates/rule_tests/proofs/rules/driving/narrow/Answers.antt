use Rattle.domains.specs.Parts.{on_side}
use Rattle.prop_core.proofs.Public.{all_told, region_stays, tops_before, trail_changed}
use Rattle.rule_tests.proofs.rules.driving.narrow.Goals as goal

pub tell_all-requires-clause-region : goal.tell_all-requires-clause-region
tell_all-requires-clause-region g c =
    let told = c.in_ok-before.ensures in
    rw c.region.ensures (region_stays _ c.args.trail.now.region c.apply_told.new.self.region c.args.change.element (on_side c.args.change.side c.args.change.part) c.requires.trail.region told.machines told.nodes told.sets)

pub tell_all-requires-clause-agreed : goal.tell_all-requires-clause-agreed
tell_all-requires-clause-agreed g c =
    let told = c.in_ok-before.ensures in
    rw c.region.ensures (tops_before _ _ c.args.trail.now c.apply_told.new.self.region c.args.change.element (on_side c.args.change.side c.args.change.part) c.in_ok-before.before c.apply_told.new.kept _ c.requires.follow told.sets told.before)

pub returns-clause-trail : goal.returns-clause-trail
returns-clause-trail g c =
    let told = c.in_ok-before.ensures in
    trail_changed _ c.args.trail.now c.apply_told.new.self c.args.change.element (on_side c.args.change.side c.args.change.part) c.requires.trail told.machines told.nodes told.sets told.marks

pub returns-clause-follow : goal.returns-clause-follow
returns-clause-follow g c = all_told _ _ _ _ _ _ c.requires.follow (rw c.region.ensures at c.in_ok-tell_all.ensures.told) c.in_ok-before.ensures.marks
