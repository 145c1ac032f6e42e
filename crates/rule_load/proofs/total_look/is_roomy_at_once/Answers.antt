use Rattle.std.proofs.Common.{arith}
use Rattle.rule_load.specs.Prelude.{always}
use Rattle.rule_load.proofs.FreeLemmas.{roomy_free}
use Rattle.rule_load.proofs.total_look.is_roomy_at_once.Goals as goal

pub returns-in-Some : goal.returns-in-Some
returns-in-Some c =
    λ on. roomy_free c.args.p.now.given c.args.g.now c.args.ks.now c.args.r (always c.args.p.now.given) c.in-Some.used c.room-room.result.total c.room-room.result.at_stake
    (omega (arith, c.args.p.now.sound.horizon)) c.requires.right c.in-Some.ensures c.room-room.ensures.room (c.leaves_enough.ensures.within on) (c.leaves_enough.ensures.machines on) c.room-room.ensures.stake
