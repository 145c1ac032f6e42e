use Rattle.placement_rules.proofs.Prelude.{◌∙◌, inl, refl, sym, choices_of, snapshot_at}
use Rattle.placement_rules.proofs.Reaching.{among, none_absent, together}
use Rattle.placement_rules.proofs.groups.are_grouped.Goals as goal

pub returns-in-AnyNode : goal.returns-in-AnyNode
returns-in-AnyNode c =
    let p = c.args.p.now.given in
    let same = together p (snapshot_at p (choices_of c.args.plan.now) c.args.t) c.args.machines.now c.reached-nodes.result c.requires.machines c.reached-nodes.ensures c.in-Some.first.0 (rw c.nodes_of-count.ensures at c.in-Some.ensures.0) c.in-Some.ensures.1 in
    let inside = rw c.nodes_of-count.ensures at c.is_inside.ensures in
    rw c.in-AnyNode.is (λ b. same.0 (λ m low h. sym (c.only.ensures m) ∙ inside.0 b m low h), λ grouped. inside.1 (λ m low h. c.only.ensures m ∙ same.1 grouped m low h))

pub returns-in-AnyOf : goal.returns-in-AnyOf
returns-in-AnyOf c =
    let p = c.args.p.now.given in
    let same = among p (snapshot_at p (choices_of c.args.plan.now) c.args.t) c.args.machines.now c.reached-nodes.result c.requires.machines c.reached-nodes.ensures c.in-AnyOf.sets.now c.in-Some.first.0 (rw c.nodes_of-count.ensures at c.in-Some.ensures.0) c.in-Some.ensures.1 in
    let inside = rw (c.nodes_of-count.ensures, c.items.ensures) at c.is_inside_some.ensures in
    rw c.in-AnyOf.is (λ b. same.0 (inside.0 b), λ grouped. inside.1 (same.1 grouped))

pub returns-in-None : goal.returns-in-None
returns-in-None c =
    let p = c.args.p.now.given in
    (λ _. inl (none_absent p (snapshot_at p (choices_of c.args.plan.now) c.args.t) c.args.machines.now c.reached-nodes.result c.requires.machines c.reached-nodes.ensures (rw c.nodes_of-count.ensures at c.in-None.ensures)), λ _. refl)
