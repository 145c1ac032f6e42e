use Rattle.rule_setload.proofs.Prelude.{refl, rules, length, ◌≡◌, Some, slice_get, slice_get_read, AreStayersOf, bound_in}
use Rattle.rule_setload.proofs.BoundLemmas.{next_stayers}
use Rattle.rule_setload.proofs.stayers.all_stayers.Goals as goal

pub loop-c-preserved : goal.loop-c-preserved
loop-c-preserved c =
    let k = c.index-constraints-c.result in
    let read : slice_get c.constraints.result.now c.loop-c.c ≡ Some k = slice_get_read c.constraints.result.now (length c.constraints.result.now) c.loop-c.c k refl (search (rules, c.loop-c-test.true, c.constraints.ensures.constraints, c.constraints-count.ensures.constraints)) c.index-constraints-c.is in
    let given : slice_get c.args.p.now.given.constraints c.loop-c.c ≡ Some k = rw c.constraints.ensures.constraints at read in
    let here : AreStayersOf c.args.p.now.given (bound_in (slice_get c.args.p.now.given.constraints c.loop-c.c)) c.stayers_of.result = rw given c.stayers_of.ensures in
    rw c.in_ok-push.ensures.items (next_stayers c.args.p.now.given c.loop-c.c c.loop-c.all.items c.stayers_of.result c.loop-c.invariant here)
