use Rattle.rule_load.proofs.Prelude.{arith, sets}
use Rattle.rule_load.proofs.FreeLemmas.{load_free}
use Rattle.rule_load.proofs.doubt.resource_doubt.Goals as goal

pub returns-then-node_fits-clause-none : goal.returns-then-node_fits-clause-none
returns-then-node_fits-clause-none c =
    load_free c.args.p.now.given (sets c.args.g.now) c.args.kept.standings.now c.args.r c.args.n.0 c.args.x c.most_used-used.result c.room_of-room.result
    (omega (arith, c.args.p.now.sound.horizon, c.requires.period)) c.requires.kept.standing c.most_used-used.ensures.sum c.room_of-room.ensures.room c.if-used-room.false c.in_default.ensures.none
    (c.node_fits.ensures c.if-node_fits.true c.args.r c.room_of-room.result c.room_of-room.ensures.room c.if-used-room.false)
