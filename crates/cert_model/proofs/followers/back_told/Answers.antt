use Rattle.cert_model.proofs.FollowLemmas.{following_back}
use Rattle.cert_model.proofs.followers.back_told.Goals as goal

pub returns-clause-follow : goal.returns-clause-follow
returns-clause-follow g c = λ yes. following_back _ _ c.args.trail.now c.back.new.self _ _ c.back.ensures (c.requires.follow yes) c.back_all.ensures
