use Rattle.rule_group.proofs.Prelude.{inl, inr, IsTrue, ◌⊎◌}
use Rattle.rule_group.specs.Prelude.{groups_seen, has_node, IsServed}
use Rattle.rule_group.proofs.TogetherLemmas.{more_served}
use Rattle.rule_group.proofs.places.add_if_serving.Goals as goal

pub returns : goal.returns
returns c =
    more_served (λ j. IsTrue (has_node c.args.found.now j) ⊎ IsServed c.args.p.now.given (groups_seen c.args.groups.now) c.args.among.now c.args.spots j) c.args.found.now _ c.args.i c.insert.ensures.nodes (λ j h. inl h)
    (inr (c.serves.ensures c.if-not-serves.false))
