use Rattle.relax.proofs.Prelude.{◌≤◌, ◌∙◌, sym, arith, Some, ◌≡◌, end_of, lowest, sets}
use Rattle.relax.proofs.LeastLemmas.{least_end_small}
use Rattle.relax.proofs.whole.least_end.Goals as goal

pub overflow_cast-result : goal.overflow_cast-result
overflow_cast-result c =
    let found : lowest (end_of c.args.p.now.given c.args.e) (sets c.args.g.now c.args.e) ≡ Some c.in-Some.end = sym (rw (c.whole.ensures.lens, c.whole.ensures.region) at c.least_end.ensures) ∙ c.in-Some.is in
    let small : c.in-Some.end ≤ c.args.p.now.given.horizon = least_end_small c.args.p.now.given c.args.p.now.sound c.args.e (sets c.args.g.now c.args.e) c.in-Some.end (c.requires.legal c.args.e c.requires.element) found in
    omega (arith, c.args.p.now.sound.horizon)
