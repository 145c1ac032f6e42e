use Rattle.cert_model.proofs.FollowLemmas.{following_marked}
use Rattle.cert_model.proofs.Prelude.{rules}
use Rattle.cert_model.proofs.followers.mark_told.Goals as goal

pub returns-in-Ok-clause-follow : goal.returns-in-Ok-clause-follow
returns-in-Ok-clause-follow g c = λ _. following_marked _ _ c.args.trail.now c.mark.new.self _ _ c.in_ok-mark.ensures.ok (c.requires (search (rules, c.if-not-follow.false))) c.in-Ok.ensures.marked
