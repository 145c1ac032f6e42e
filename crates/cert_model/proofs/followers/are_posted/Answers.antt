use Rattle.cert_model.proofs.{Prelude.rules, FollowLemmas.following_posted}
use Rattle.cert_model.proofs.followers.are_posted.Goals as goal

pub returns-in-Ok : goal.returns-in-Ok
returns-in-Ok g c =
    λ _. following_posted _ _ c.args.region.now _ _ c.requires (c.covered.ensures.0 (search (rules, c.if-not-covered.false))) c.in-Ok.ensures.posted
