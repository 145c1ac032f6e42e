use Rattle.std.proofs.Common.{arith}
use Rattle.rule_load.specs.Prelude.{always}
use Rattle.rule_load.proofs.FreeLemmas.{roomy_free}
use Rattle.rule_load.proofs.total_look.is_roomy.Goals as goal

pub returns : goal.returns
returns c =
    let sum = rw c.always-x.ensures at c.most_total-used.ensures.sum in
    λ on. roomy_free c.args.p.now.given c.args.g.now c.args.ks.now c.args.r (always c.args.p.now.given) c.most_total-used.result c.room-room.result.total c.room-room.result.at_stake
    (omega (arith, c.args.p.now.sound.horizon)) c.requires.right (omega (arith, sum)) c.room-room.ensures.room (c.leaves_enough.ensures.within on) (c.leaves_enough.ensures.machines on) c.room-room.ensures.stake
