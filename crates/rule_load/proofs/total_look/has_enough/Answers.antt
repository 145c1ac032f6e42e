use Rattle.std.proofs.Common.{arith}
use Rattle.rule_load.proofs.FreeLemmas.{loose_free, total_free}
use Rattle.rule_load.proofs.total_look.has_enough.Goals as goal

pub returns-then-machines_fit : goal.returns-then-machines_fit
returns-then-machines_fit c =
    λ _. total_free c.args.p.now.given c.args.g.now c.args.ks.now c.args.r c.args.x c.most_total-used.result c.steady_room-steady.result
    (omega (arith, c.args.p.now.sound.horizon, c.requires.period)) c.requires.right c.most_total-used.ensures.sum c.steady_room-steady.ensures.room c.if-used-steady.true (c.machines_fit.ensures c.if-machines_fit.true)

pub returns-then-used-loose : goal.returns-then-used-loose
returns-then-used-loose c =
    λ on. loose_free c.args.p.now.given c.args.g.now c.args.ks.now c.args.r c.args.x c.most_total-used.result c.loose_room-loose.result.total
    (omega (arith, c.args.p.now.sound.horizon, c.requires.period)) c.requires.right c.most_total-used.ensures.sum c.loose_room-loose.ensures.room (omega (arith, c.if-used-loose.true)) (c.machines_fit-then-used-loose.ensures on)
    (c.loose_room-loose.ensures.stake c.most_total-used.result (omega (arith, c.if-used-loose.true)))
