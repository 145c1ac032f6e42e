use Rattle.rule_setload.proofs.Prelude.{refl, length, ◌≡◌, Some, slice_get, slice_get_read}
use Rattle.rule_setload.proofs.amounts.AmountKeeper.propose.Goals as goal

pub propose_as-requires-clause-there : goal.propose_as-requires-clause-there
propose_as-requires-clause-there c =
    let k = c.index-constraints-c.result in
    let read : slice_get c.constraints.result.now c.args.c ≡ Some k = slice_get_read c.constraints.result.now (length c.constraints.result.now) c.args.c k refl (rw c.constraints.ensures.constraints c.requires.constraint) c.index-constraints-c.is in
    rw c.constraints.ensures.constraints at read
