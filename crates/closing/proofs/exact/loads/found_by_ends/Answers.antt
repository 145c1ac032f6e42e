use Rattle.closing.proofs.{Prelude.refl, Prelude.nodes_of, Prelude.sets, SumLemmas.fits-free, SumLemmas.machine-breaks, SumLemmas.node-breaks}
use Rattle.closing.proofs.exact.loads.found_by_ends.Goals as goal

pub returns-in-Some : goal.returns-in-Some
returns-in-Some c =
    let at = c.in-Some.ensures.some in
    (refl, machine-breaks c.args.p.now.given (sets c.args.g.now) c.args.r (nodes_of c.args.p.now.given c.args.area.now) c.args.t c.args.spare c.requires.spare c.in-Some.v.0 at.0 c.in-Some.c at.1)

pub returns-in-Some-node_missed : goal.returns-in-Some-node_missed
returns-in-Some-node_missed c =
    let at = c.in-Some-node_missed.ensures.some in
    (refl, node-breaks c.args.p.now.given (sets c.args.g.now) c.args.r (nodes_of c.args.p.now.given c.args.area.now) c.args.t c.args.spare c.requires.spare c.in-Some-node_missed.n.0 at.0 c.in-Some-node_missed.c at.1)

pub returns : goal.returns
returns c = fits-free c.args.p.now.given (sets c.args.g.now) c.args.r (nodes_of c.args.p.now.given c.args.area.now) c.args.t c.args.spare c.requires.spare c.in_default.ensures.none c.in_default-node_missed.ensures.none
