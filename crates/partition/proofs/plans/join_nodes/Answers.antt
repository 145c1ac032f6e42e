use Rattle.base.proofs.Public.{◌∙◌, ℕ, ap}
use Rattle.slices.specs.Elements.{node}
use Rattle.partition.specs.Plans.{joined_choice}
use Rattle.partition.specs.Reach.{at}
use Rattle.partition.proofs.PlanLemmas.{one_more_joined}
use Rattle.partition.proofs.plans.join_nodes.Goals as goal

pub loop-n-preserved : goal.loop-n-preserved
loop-n-preserved c =
    let choice = ap (λ (k : ℕ). joined_choice c.args.lists.now c.args.plans.now (at c.args.groups.now c.loop-n.n) (node k)) c.number_at.ensures in
    c.in_ok-push.ensures.items ∙ one_more_joined _ c.loop-n.n _ _ _ c.loop-n.invariant (c.joined_choice.ensures ∙ choice)
