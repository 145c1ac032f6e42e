use Rattle.load_bounds.proofs.Prelude.{◌≡◌, ◌<◌, Bool, true, false, not, refl, slice_index_or, arith, nat_tests, sets}
use Rattle.load_bounds.proofs.UseLemmas.{elsewhere_is_past, late_is_past}
use Rattle.load_bounds.proofs.uses.may_come.Goals as goal

on : (b : Bool) → not b ≡ false → b ≡ true
on true e = refl
on false e = cc

pub returns-then-kept-v : goal.returns-then-kept-v
returns-then-kept-v c = λ e.
    let yes = on c.goes_elsewhere.result e in
    elsewhere_is_past c.args.p.now.given (sets c.args._g.now) c.args.kept.standings.now c.args.n.0 c.args.v.0 c.args.by _ c.requires.kept.standing c.requires.machine (c.goes_elsewhere.ensures.some yes) (c.goes_elsewhere.ensures.other yes)

pub returns-else-kept-v : goal.returns-else-kept-v
returns-else-kept-v c = λ e.
    let late : c.args.by < slice_index_or c.args.kept.firsts.now c.args.v.0 0 = grind (arith, nat_tests, e) in
    late_is_past c.args.p.now.given (sets c.args._g.now) c.args.n.0 c.args.v.0 c.args.by 0 c.args.kept.firsts.now c.requires.kept.firsts c.requires.machine late
