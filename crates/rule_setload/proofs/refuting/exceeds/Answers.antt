use Rattle.rule_setload.proofs.Prelude.{◌≡◌, ◌<◌, refl, length, sym, ◌∙◌, Some, slice_get, slice_get_read}
use Rattle.rule_setload.proofs.HolderLemmas.{holders_at}
use Rattle.rule_setload.proofs.refuting.exceeds.Goals as goal

pub is_exceeded-requires-clause-holders : goal.is_exceeded-requires-clause-holders
is_exceeded-requires-clause-holders c =
    let k = c.index-constraints-c.result in
    let low : c.args.c < length c.args.p.now.given.constraints = rw c.constraints.ensures.constraints at c.if-c-constraints.false in
    let read : slice_get c.args.p.now.given.constraints c.args.c ≡ Some k = slice_get_read c.args.p.now.given.constraints (length c.args.p.now.given.constraints) c.args.c k refl low (rw c.constraints-2.ensures.constraints at c.index-constraints-c.is) in
    holders_at c.args.p.now.given c.args.c k c.in-Some.bound c.args.holders.now c.get.result.now read (sym c.bound_of.ensures.bound ∙ c.in-Some.is) c.requires.holders low c.get.ensures
