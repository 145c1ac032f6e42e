use Rattle.std.proofs.Common.{◌||◌, ◌==◌, Bool, List, false, slice_index_or, ◌∙◌, ap, arith}
use Rattle.replay.specs.Prelude.{choices_of, element_count, inventory_of, is_event, turns_below}
use Rattle.replay.proofs.Marks.{ends_marked, prefix_is}
use Rattle.replay.proofs.events.marks.Goals as goal

pub returns-clause-marks : goal.returns-clause-marks
unfolding is_event
returns-clause-marks c = λ t.
    let p = c.args.p.now.given in
    let later = λ (b : Bool). b || turns_below p (choices_of c.args.plan.now) (element_count (inventory_of p)) t in
    let ends = ends_marked c.in_ok-marks.marks.items c.horizon-horizon.result t (c.in_ok-marks.ensures.items_if_clones_equal (λ y h. h)) in
    ap (λ (l : List Bool). slice_index_or l t false) (prefix_is c.in_ok-marks.marks.len c.mark_elements.new.marks _ (grind arith))
    ∙ c.mark_elements.ensures t
    ∙ ap (λ (l : List Bool). later (slice_index_or l t false)) c.deref_mut.ensures.value
    ∙ ap later ends
    ∙ ap (λ h. (t == 0) || (t == h) || turns_below p (choices_of c.args.plan.now) (element_count (inventory_of p)) t) c.horizon-horizon.ensures.horizon
