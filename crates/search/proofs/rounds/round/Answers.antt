use Rattle.std.proofs.Common.{◌≡◌, ◌∙◌, [], append-nil}
use Rattle.search.proofs.RoundLemmas.{marked_still, next_inside, next_outside, nothing_waits, taken_off}
use Rattle.search.proofs.WorkLemmas.{cover_rule, cover_trans}
use Rattle.search.proofs.rounds.round.Goals as goal

pub returns-in_default-pop-clause-done : goal.returns-in_default-pop-clause-done
returns-in_default-pop-clause-done g c =
    let ends = rw c.in_default.is at c.in_ok-side.ensures.visited in
    let rest = rw c.in_default-pop.ensures.cases.0 at c.in_default-pop.ensures.rest in
    let none : c.args.splits.now.items ≡ [] = c.in_default-pop.ensures.items ∙ append-nil _ ∙ rest in
    nothing_waits _ _ c.args.budget _ c.args.progress.now c.at_region.new.progress _ _ _ _ c.args.ground.now.trail c.at_region.new.ground.trail c.args.splits.now.items ends none

pub back_levels-requires-clause-marked : goal.back_levels-requires-clause-marked
back_levels-requires-clause-marked g c =
    let ends = rw c.in_default.is at c.in_ok-side.ensures.visited in
    marked_still _ _ _ (c.in-Some-pop.element, c.in-Some-pop.part) c.args.splits.now.items c.pop.new.self.items c.requires.paired c.in-Some-pop.ensures.items ends.marks

pub narrow_all-requires-clause-element : goal.narrow_all-requires-clause-element
narrow_all-requires-clause-element g c =
    let ends = rw c.in_default.is at c.in_ok-side.ensures.visited in
    (taken_off _ _ _ c.back_levels.new.ground.trail (c.in-Some-pop.element, c.in-Some-pop.part) c.args.splits.now.items c.pop.new.self.items c.requires.paired c.in-Some-pop.ensures.items ends.marks c.back_levels.ensures.marks).parted.split.element

pub returns-clause-done : goal.returns-clause-done
returns-clause-done g c =
    let ends = rw c.in_default.is at c.in_ok-side.ensures.visited in
    let o = taken_off _ _ _ c.back_levels.new.ground.trail (c.in-Some-pop.element, c.in-Some-pop.part) c.args.splits.now.items c.pop.new.self.items c.requires.paired c.in-Some-pop.ensures.items ends.marks c.back_levels.ensures.marks in
    next_outside _ _ c.args.budget _ c.args.progress.now c.at_region.new.progress _ _ _ _ _ _ c.args.ground.now.trail c.at_region.new.ground.trail c.back_levels.new.ground.trail c.narrow_all.new.ground.trail c.args.splits.now.items c.pop.new.self.items (c.in-Some-pop.element, c.in-Some-pop.part) ends c.in_ok-side.ensures.covers.count c.back_levels.ensures.same c.in_ok-narrow_all.ensures.same o c.in_ok-narrow_all.ensures.sets c.in_ok-narrow_all.ensures.marks

pub returns-in_err-narrow_all-clause-covers : goal.returns-in_err-narrow_all-clause-covers
returns-in_err-narrow_all-clause-covers g c = cover_trans _ _ _ _ c.in_ok-side.ensures.covers (cover_trans _ _ _ _ (cover_rule _ _ _ c.back_levels.ensures.same) (cover_rule _ _ _ c.narrow_all.ensures.same))

pub returns-clause-covers : goal.returns-clause-covers
returns-clause-covers g c = cover_trans _ _ _ _ c.in_ok-side.ensures.covers (cover_trans _ _ _ _ (cover_rule _ _ _ c.back_levels.ensures.same) (cover_rule _ _ _ c.in_ok-narrow_all.ensures.same))

pub returns-in-Some-clause-done : goal.returns-in-Some-clause-done
returns-in-Some-clause-done g c =
    let enters = rw c.in-Some.is at c.in_ok-side.ensures.visited in
    next_inside _ _ c.args.budget _ c.args.progress.now c.at_region.new.progress _ _ _ _ c.args.ground.now.trail c.at_region.new.ground.trail c.args.splits.now.items c.push.new.self.items c.in-Some.side enters c.in_ok-push.ensures.items c.requires.paired
