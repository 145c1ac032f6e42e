use Rattle.load_bounds.proofs.Prelude.{◌∙◌, arith, seen, sets}
use Rattle.load_bounds.proofs.OverLemmas.{kept_is_held}
use Rattle.load_bounds.proofs.over.near_one.Goals as goal

pub returns-else-is_narrowed-clause-held : goal.returns-else-is_narrowed-clause-held
returns-else-is_narrowed-clause-held c =
    let same =
    c.kept_use.ensures.uses
    ∙ kept_is_held c.args.p.now.given (sets c.args.view.now.region.now) (seen c.args.view.now.region.now c.args.view.now.lens) c.args.kept.standings.now _ c.args.v.0 c.args.r c.args.n.0 c.args.t (omega (arith, c.args.p.now.sound.horizon, c.requires.within))
    c.requires.kept.standing c.requires.machine (c.is_narrowed.ensures c.if-is_narrowed.false c.args.view.now.region.now) in
    omega (arith, same)
