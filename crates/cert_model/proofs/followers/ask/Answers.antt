use Rattle.prop_core.proofs.Public.{closed_when_quiet}
use Rattle.cert_model.proofs.FollowLemmas.{following_asked}
use Rattle.cert_model.proofs.followers.ask.Goals as goal

pub returns-in-Ok-clause-closed : goal.returns-in-Ok-clause-closed
returns-in-Ok-clause-closed g c =
    let asked = following_asked _ _ c.args.trail.now _ _ c.requires (rw c.region.ensures at c.ask_all.ensures.asked) in
    λ yes some. closed_when_quiet _ _ _ _ asked.covered (rw (c.is_quiet.ensures yes, c.region.ensures) at c.in-Ok.ensures.answer) some

pub returns-in-Ok-clause-follow : goal.returns-in-Ok-clause-follow
returns-in-Ok-clause-follow g c = following_asked _ _ c.args.trail.now _ _ c.requires (rw c.region.ensures at c.ask_all.ensures.asked)

pub returns-in-Err-clause-follow : goal.returns-in-Err-clause-follow
returns-in-Err-clause-follow g c = following_asked _ _ c.args.trail.now _ _ c.requires (rw c.region.ensures at c.ask_all.ensures.asked)
