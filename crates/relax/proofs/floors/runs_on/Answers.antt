use Rattle.relax.proofs.{Prelude.Contains, Prelude.sets, Prelude.vm, FloorLemmas.all_up, FloorLemmas.host_there}
use Rattle.relax.proofs.floors.runs_on.Goals as goal

pub returns : goal.returns
returns c =
    λ t w i x h.
    let seen = rw (c.shown.ensures.seen c.args.view.now.region.now) at h in
    let there : Contains (sets c.args.view.now.region.now (vm c.args.v.0)) x = c.is_part.ensures c.if-not-is_part.false (sets c.args.view.now.region.now (vm c.args.v.0)) x seen in
    all_up c.args.p.now.given c.args.v.0 w c.args.host i c.domain.result.now c.requires.runs (host_there c.args.p.now.given c.args.p.now.sound c.args.v.0 c.args.host c.requires.runs) (c.is_to_run.ensures c.if-not-is_to_run.false c.args.host c.requires.runs) (c.always_acts.ensures t) x (rw c.domain.ensures.domain there)
