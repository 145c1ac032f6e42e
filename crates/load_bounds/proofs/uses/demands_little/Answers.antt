use Rattle.load_bounds.proofs.Prelude.{◌+◌, ◌≤◌, arith, nat_tests}
use Rattle.load_bounds.specs.Prelude.{demand_of, sets}
use Rattle.load_bounds.proofs.UseLemmas.{demand_fits}
use Rattle.load_bounds.proofs.uses.demands_little.Goals as goal

pub returns : goal.returns
returns c = λ is out more.
    let low : c.demand.result ≤ c.args.spare = grind (arith, nat_tests, is) in
    let fits : demand_of c.args.p.now.given c.args.v.0 c.args.r ≤ c.args.spare + more = omega (arith, low, c.demand.ensures) in
    demand_fits c.args.p.now.given (sets c.args._g.now) c.args._n.0 c.args.v.0 c.args.r (c.args.spare + more) c.args._x c.args._kept.near.now c.requires.kept.near c.requires.machine (omega (arith, c.args.p.now.sound.horizon, c.requires.period)) fits out
