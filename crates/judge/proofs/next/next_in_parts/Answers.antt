use Rattle.base.proofs.Public.{◌+◌, [], ◌∙◌, get_or_read, slice_index_or}
use Rattle.judge.specs.Prelude.{AreMachines, choices_of, IsInSome, IsMember}
use Rattle.judge.proofs.Starting.{next_of_both, parts_more}
use Rattle.judge.proofs.next.next_in_parts.Goals as goal

pub loop-i-preserved : goal.loop-i-preserved
loop-i-preserved c =
    let parts = c.args.parts.now in
    let i = c.loop-i.i in
    let part = c.items.ensures ∙ get_or_read parts i c.index-parts-i.result c.loop-i-test.true c.index-parts-i.is [] in
    next_of_both (choices_of c.args.plan.now) (AreMachines (IsInSome parts i)) (AreMachines (IsMember (slice_index_or parts i []))) (AreMachines (IsInSome parts (i + 1))) c.args.t c.args.next c.loop-i.least c.next_member-least.result (parts_more parts i) c.loop-i.invariant (rw part at c.next_member-least.ensures)
