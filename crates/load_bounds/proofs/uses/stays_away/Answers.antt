use Rattle.load_bounds.proofs.Prelude.{◌<◌, arith, nat_tests, slice_index_or}
use Rattle.load_bounds.specs.Prelude.{sets}
use Rattle.load_bounds.proofs.UseLemmas.{away_fits}
use Rattle.load_bounds.proofs.uses.stays_away.Goals as goal

pub returns : goal.returns
returns c = λ is out bound.
    let late : c.args.x.to < slice_index_or c.args.kept.firsts.now c.args.v.0 0 = grind (arith, nat_tests, is) in
    away_fits c.args.p.now.given (sets c.args._g.now) c.args.n.0 c.args.v.0 c.args._r 0 bound c.args.x c.args.kept.near.now c.args.kept.firsts.now c.requires.kept.near c.requires.kept.firsts c.requires.machine (omega (arith, c.args.p.now.sound.horizon, c.requires.period)) late out
