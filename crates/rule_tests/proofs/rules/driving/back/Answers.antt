use Rattle.prop_core.proofs.Public.{all_back, trail_back}
use Rattle.rule_tests.proofs.rules.driving.back.Goals as goal

pub returns-clause-trail : goal.returns-clause-trail
returns-clause-trail g c = trail_back _ c.args.trail.now c.back.new.self c.requires.trail c.back.ensures

pub returns-clause-follow : goal.returns-clause-follow
returns-clause-follow g c = all_back _ _ _ _ _ _ c.requires.follow c.back_all.ensures c.back.ensures
