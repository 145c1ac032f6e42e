use Rattle.std.proofs.Common.{◌≡◌}
use Rattle.slices.specs.Prelude.{Act, action_duration, holding_of, Idle, slices_of, stage_at, vm}
use Rattle.slices.proofs.HoldingLemmas.{holding_of-is}
use Rattle.slices.proofs.choice.holding.Goals as goal

pub returns-in-Idle : goal.returns-in-Idle
unfolding slices_of stage_at
returns-in-Idle c =
    let p = c.args.p.now.given in
    let same : holding_of (slices_of p c.args.v.0 Idle) (stage_at p (vm c.args.v.0) Idle c.args.t) ≡ c.holding_from.result = cc in
    rw c.in-Idle.is (holding_of-is p c.args.p.now.sound c.args.v.0 Idle c.args.t c.holding_from.result same)

pub returns-in-Act : goal.returns-in-Act
unfolding slices_of stage_at action_duration
returns-in-Act c =
    let p = c.args.p.now.given in
    let choice = Act c.in-Act.place c.in-Act.start in
    let same : holding_of (slices_of p c.args.v.0 choice) (stage_at p (vm c.args.v.0) choice c.args.t) ≡ c.holding_from-in-Act.result = cc in
    rw c.in-Act.is (holding_of-is p c.args.p.now.sound c.args.v.0 choice c.args.t c.holding_from-in-Act.result same)
