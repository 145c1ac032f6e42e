use Rattle.base.proofs.Public.{◌∙◌, ℕ, ap}
use Rattle.slices.specs.Elements.{vm}
use Rattle.partition.specs.Plans.{joined_choice}
use Rattle.partition.specs.Reach.{at}
use Rattle.partition.proofs.PlanLemmas.{one_more_joined}
use Rattle.partition.proofs.plans.join_machines.Goals as goal

pub loop-v-preserved : goal.loop-v-preserved
loop-v-preserved c =
    let choice = ap (λ (k : ℕ). joined_choice c.args.lists.now c.args.plans.now (at c.args.groups.now c.loop-v.v) (vm k)) c.number_at.ensures in
    c.in_ok-push.ensures.items ∙ one_more_joined _ c.loop-v.v _ _ _ c.loop-v.invariant (c.joined_choice.ensures ∙ choice)
