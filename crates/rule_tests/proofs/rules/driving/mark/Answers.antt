use Rattle.prop_core.proofs.Public.{all_marked}
use Rattle.rule_tests.proofs.rules.driving.mark.Goals as goal

pub returns-clause-follow : goal.returns-clause-follow
returns-clause-follow g c = all_marked _ _ _ _ _ _ c.requires.follow c.in_ok-mark_all.ensures.marked c.in_ok-mark.ensures.ok
