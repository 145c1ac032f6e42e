use Rattle.prop_core.proofs.Public.{all_asked}
use Rattle.rule_tests.proofs.rules.driving.ask.Goals as goal

pub returns-clause-follow : goal.returns-clause-follow
returns-clause-follow g c = all_asked _ _ c.args.trail.now _ _ c.requires.follow (rw c.region.ensures at c.ask_all.ensures.asked)
