use Rattle.rule_group.specs.Prelude.{groups_seen}
use Rattle.rule_group.proofs.TogetherLemmas.{served_at_one}
use Rattle.rule_group.proofs.places.is_served_by.Goals as goal

pub returns-then-is_at_one : goal.returns-then-is_at_one
returns-then-is_at_one c =
    λ are yes. served_at_one c.args.p.now.given (groups_seen c.args.groups.now) c.args.among.now c.args.nodes.now c.args.spots are (c.is_at_one.ensures c.if-is_at_one.true)
