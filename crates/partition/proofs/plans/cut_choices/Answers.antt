use Rattle.base.proofs.Public.{◌∙◌, ◌==◌, ap, refl}
use Rattle.parts.specs.Cuts.{renumbered_choice}
use Rattle.partition.specs.Reach.{at}
use Rattle.partition.proofs.PlanLemmas.{one_more_if}
use Rattle.partition.proofs.plans.cut_choices.Goals as goal

pub loop-x-preserved : goal.loop-x-preserved
loop-x-preserved c =
    let choice = c.renumbered.ensures ∙ ap (renumbered_choice (at c.args.numbers.now)) c.choice_at.ensures in
    one_more_if (λ x. at c.args.groups.now x == c.args.i) _ c.loop-x.x _ _ _ _ _ c.loop-x.invariant c.in_ok-put_if.ensures refl choice
