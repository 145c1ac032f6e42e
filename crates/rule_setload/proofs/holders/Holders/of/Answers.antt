use Rattle.rule_setload.proofs.Prelude.{refl, rules, length, ◌≡◌, Some, slice_get, slice_get_read, bound_in}
use Rattle.rule_setload.specs.Prelude.{AreHolders}
use Rattle.rule_setload.proofs.HolderLemmas.{next_holders}
use Rattle.rule_setload.proofs.holders.Holders.of.Goals as goal

pub loop-c-preserved : goal.loop-c-preserved
loop-c-preserved c =
    let k = c.index-constraints-c.result in
    let read : slice_get c.constraints.result.now c.loop-c.c ≡ Some k = slice_get_read c.constraints.result.now (length c.constraints.result.now) c.loop-c.c k refl (search (rules, c.loop-c-test.true, c.constraints.ensures.constraints, c.constraints-c-end.ensures.constraints)) c.index-constraints-c.is in
    let given : slice_get c.args.p.now.given.constraints c.loop-c.c ≡ Some k = rw c.constraints.ensures.constraints at read in
    let here : AreHolders c.args.p.now.given (bound_in (slice_get c.args.p.now.given.constraints c.loop-c.c)) c.in_ok-list.list.items = rw given c.in_ok-list.ensures in
    rw c.in_ok-push.ensures (next_holders c.args.p.now.given c.loop-c.c c.loop-c.all c.in_ok-list.list.items c.loop-c.invariant here)
