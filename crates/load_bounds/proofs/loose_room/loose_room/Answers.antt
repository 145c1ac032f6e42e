use Rattle.load_bounds.proofs.Prelude.{◌≡◌, length, refl, arith, node_count, sets}
use Rattle.load_bounds.proofs.LooseLemmas.{lasting_room, loose_fits}
use Rattle.load_bounds.proofs.loose_room.loose_room.Goals as goal

pub returns-clause-room : goal.returns-clause-room
returns-clause-room c =
    let many : length c.nodes-i-end.result.now ≡ node_count c.args.p.now.given = rw (c.nodes-i-end.ensures.nodes, c.cluster.ensures.cluster) refl in
    lasting_room c.args.p.now.given (sets c.args.g.now) c.args.r c.args.x c.loop-i.i c.loop-i.total (omega (arith, many, c.loop-i-test.false, c.loop-i.auto.i-end)) c.loop-i.invariant.lasting

pub returns-clause-stake : goal.returns-clause-stake
returns-clause-stake c =
    let many : length c.nodes-i-end.result.now ≡ node_count c.args.p.now.given = rw (c.nodes-i-end.ensures.nodes, c.cluster.ensures.cluster) refl in
    loose_fits c.args.p.now.given (sets c.args.g.now) c.args.r c.args.x c.loop-i.total c.loop-i.at_stake
    (lasting_room c.args.p.now.given (sets c.args.g.now) c.args.r c.args.x c.loop-i.i c.loop-i.total (omega (arith, many, c.loop-i-test.false, c.loop-i.auto.i-end)) c.loop-i.invariant.lasting)
    (λ n l. c.loop-i.invariant.stakes n (omega (arith, l, many, c.loop-i-test.false)))
