use Rattle.rule_group.proofs.Prelude.{refl}
use Rattle.rule_group.specs.Prelude.{groups_seen, IsHad}
use Rattle.rule_group.proofs.TogetherLemmas.{had_by_served, more_had}
use Rattle.rule_group.proofs.places.add_if_had.Goals as goal

pub returns : goal.returns
returns c =
    let served = c.is_served.ensures c.if-not-is_served.false in
    more_had (λ m. IsHad c.args.p.now.given (groups_seen c.args.groups.now) c.args.among.now m) c.args.nodes.now _ c.args.n.0 c.insert.ensures.nodes
    (had_by_served c.args.p.now.given (groups_seen c.args.groups.now) c.args.among.now _ c.args.n served.0 refl served.1)
