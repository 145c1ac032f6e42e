use Rattle.base.proofs.Public.{slice_get_read}
use Rattle.std.specs.Prelude.{slice_get}
use Rattle.quick_checks.proofs.{Prelude.◌≡◌, Prelude.◌<◌, Prelude.arith, Prelude.length, Prelude.refl, Prelude.rules, Prelude.sets, Prelude.Some, TallyLemmas.tally_made}
use Rattle.quick_checks.proofs.tally.tally_of.Goals as goal

pub returns : goal.returns
returns c =
    let p = c.args.p.now.given in
    let first : c.args.c < length c.constraints.result.now = omega (arith, c.if-i-constraints.false) in
    let there : c.args.c < length p.constraints = rw c.constraints.ensures.constraints at first in
    let low : c.args.c < length c.constraints-2.result.now = rw c.constraints-2.ensures.constraints there in
    let read : slice_get c.constraints-2.result.now c.args.c ≡ Some c.index-constraints-i.result = slice_get_read c.constraints-2.result.now (length c.constraints-2.result.now) c.args.c c.index-constraints-i.result refl low c.index-constraints-i.is in
    tally_made p (sets c.args.region.now) c.args.c c.args.t c.index-constraints-i.result c.in-Bounded.weight c.in-Bounded.nodes.now c.in-Bounded.field-2 c.listed-sum.result (rw c.constraints-2.ensures.constraints at read) (search rules) (rw (← c.area_of-area.ensures) c.listed-sum.ensures)
