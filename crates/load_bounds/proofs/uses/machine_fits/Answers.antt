use Rattle.load_bounds.proofs.Prelude.{slice_index_or, ◌+◌, ◌≤◌, arith, nat_tests, Amount, most_kept, no_standing, sets, vm}
use Rattle.load_bounds.proofs.UseLemmas.{fits_now}
use Rattle.load_bounds.proofs.uses.machine_fits.Goals as goal

pub returns : goal.returns
returns c =
    λ on.
    let fits : c.most_left.result + c.most_brought.result ≤ c.args.spare + c.most_kept.result = grind (arith, nat_tests, on) in
    fits_now c.args.p.now.given c.args.v.0 (sets c.args.g.now (vm c.args.v.0)) c.args.r c.args.n.0 c.args.x c.most_left.result c.most_brought.result (c.args.spare + most_kept c.args.p.now.given c.args.v.0 (Amount c.args.r) c.args.n.0 c.args.x (slice_index_or c.args.kept.standings.now c.args.v.0 no_standing))
    (omega (arith, c.args.p.now.sound.horizon, c.requires.period)) c.most_left.ensures.most c.most_brought.ensures.most (omega (arith, fits, c.most_kept.ensures.most))
