use Rattle.rule_group.proofs.Prelude.{arith}
use Rattle.rule_group.specs.Prelude.{groups_seen, Idle}
use Rattle.rule_group.proofs.TogetherLemmas.{fits_at}
use Rattle.rule_group.proofs.together.idle_fits.Goals as goal

pub returns : goal.returns
returns c =
    λ yes idle. fits_at c.args.p.now.given c.args.always c.args.v.0 Idle (groups_seen c.args.groups.now) c.args.common.now c.spots_of_idle.result c.args.p.now.sound (omega (arith, c.args.p.now.sound.horizon)) c.spots_of_idle.ensures
    (c.is_served.ensures yes)
