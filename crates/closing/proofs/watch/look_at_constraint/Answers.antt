use Rattle.closing.proofs.Prelude.{◌≡◌, length, refl, Some, sym, ◌∙◌, slice_get, slice_get_read, sets}
use Rattle.closing.proofs.LocalLemmas.{last_look}
use Rattle.closing.proofs.watch.look_at_constraint.Goals as goal

pub returns-else-is_continuous : goal.returns-else-is_continuous
returns-else-is_continuous c =
    let read : slice_get c.constraints.result.now c.args.c ≡ Some c.index-constraints-c.result = slice_get_read c.constraints.result.now (length c.constraints.result.now) c.args.c c.index-constraints-c.result refl (rw c.constraints.ensures.constraints c.requires.constraint) c.index-constraints-c.is in
    last_look c.args.p.now.given (sets c.args.g.now) c.args.c c.index-constraints-c.result c.constraint_found.result (rw c.constraints.ensures.constraints at read) (sym c.is_continuous.ensures ∙ c.if-is_continuous.false) (rw c.horizon.ensures.horizon at c.constraint_found.ensures)
