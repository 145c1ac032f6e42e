use Rattle.rule_group.proofs.Prelude.{sym}
use Rattle.rule_group.specs.Prelude.{groups_seen, sets}
use Rattle.rule_group.proofs.TogetherLemmas.{together_clean}
use Rattle.rule_group.proofs.together.are_together.Goals as goal

pub returns : goal.returns
returns c =
    λ yes. together_clean c.args.p.now.given (sets c.args.g.now) c.args.constraint.now c.is_continuous-always.result c.args.machines.now (groups_seen c.args.groups.now) c.common_groups-common.result c.common_groups-common.ensures
    (c.members_fit.ensures yes) (sym c.is_continuous-always.ensures) c.requires.form
