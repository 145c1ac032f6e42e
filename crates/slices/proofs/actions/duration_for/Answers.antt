use Rattle.std.proofs.Common.{◌≡◌, length, subst, unwrap_or}
use Rattle.cluster.proofs.Public.{IsDuration}
use Rattle.slices.specs.Actions.{own_of, common_of}
use Rattle.slices.proofs.DurationLemmas.{chosen}
use Rattle.slices.proofs.actions.duration_for.Goals as goal

pub returns-clause-fits : goal.returns-clause-fits
returns-clause-fits c =
    let p = c.args.p.now.given in
    let same : unwrap_or (own_of p c.args.e c.args.kind) (common_of p c.args.kind) ≡ c.unwrap_or.result = cc in
    subst (IsDuration (length p.resources)) same (chosen p c.args.p.now.sound c.args.e c.args.kind)
