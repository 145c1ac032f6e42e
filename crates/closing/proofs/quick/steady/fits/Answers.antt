use Rattle.closing.proofs.{Prelude.nodes_of, Prelude.sets, SteadyLemmas.steady_fits}
use Rattle.closing.proofs.quick.steady.fits.Goals as goal

pub returns : goal.returns
returns c = λ yes t. steady_fits c.args.p.now.given (sets c.args.g.now) c.args.r (nodes_of c.args.p.now.given c.args.area.now) c.steady_room.result c.steady_room.ensures.room (c.stays_within.ensures yes) t
