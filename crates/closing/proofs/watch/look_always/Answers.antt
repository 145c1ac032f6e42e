use Rattle.closing.proofs.Prelude.{◌≡◌, length, refl, Some, slice_get, slice_get_read, sets}
use Rattle.closing.proofs.{EverLemmas.never_broken, LocalLemmas.constraint_is_local}
use Rattle.closing.proofs.watch.look_always.Goals as goal

pub look-requires-clause-local : goal.look-requires-clause-local
look-requires-clause-local c = constraint_is_local c.args.p.now.given c.args.c

pub look-requires-clause-suffice : goal.look-requires-clause-suffice
look-requires-clause-suffice c =
    let read : slice_get c.constraints.result.now c.args.c ≡ Some c.index-constraints-c.result = slice_get_read c.constraints.result.now (length c.constraints.result.now) c.args.c c.index-constraints-c.result refl (rw c.constraints.ensures.constraints c.requires.constraint) c.index-constraints-c.is in
    rw (rw c.constraints.ensures.constraints at read) c.change_instants_of.ensures.sees

pub returns-then-is_never_broken : goal.returns-then-is_never_broken
returns-then-is_never_broken c =
    let read : slice_get c.constraints.result.now c.args.c ≡ Some c.index-constraints-c.result = slice_get_read c.constraints.result.now (length c.constraints.result.now) c.args.c c.index-constraints-c.result refl (rw c.constraints.ensures.constraints c.requires.constraint) c.index-constraints-c.is in
    never_broken c.args.p.now.given (sets c.args.g.now) c.args.c c.index-constraints-c.result (rw c.constraints.ensures.constraints at read) (c.is_never_broken.ensures c.if-is_never_broken.true)
