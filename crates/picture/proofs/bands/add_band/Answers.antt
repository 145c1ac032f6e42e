use Rattle.base.proofs.Public.{All-push}
use Rattle.picture.specs.Prelude.{choices_of, IsBand}
use Rattle.picture.proofs.bands.add_band.Goals as goal

pub returns-clause-drawn : goal.returns-clause-drawn
returns-clause-drawn c =
    rw c.in_ok-push.ensures.items (All-push (IsBand c.args.p.now.given (choices_of c.args.plan.now) c.args.actions.now c.args.span c.args.instants.now) c.args.made.now.bands.items c.in_ok-band.band c.requires.drawn c.in_ok-band.ensures.band)
