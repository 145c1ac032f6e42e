use Rattle.load_bounds.proofs.Prelude.{arith, sets}
use Rattle.load_bounds.proofs.UseLemmas.{still_fits}
use Rattle.load_bounds.proofs.uses.stands_still.Goals as goal

pub returns-then-from-kept : goal.returns-then-from-kept
returns-then-from-kept c =
    λ on.
    still_fits c.args.p.now.given (sets c.args.g.now) c.args.kept.standings.now c.args._n.0 c.args.v.0 c.args._r c.args._spare c.args.x _ c.requires.kept.standing c.requires.machine
    (omega (arith, c.args.p.now.sound.horizon, c.requires.period)) (rw c.from.ensures at c.if-from-kept.true) (c.has_no_row.ensures on c.args._n.0 c.args._r c.args.x.to)
