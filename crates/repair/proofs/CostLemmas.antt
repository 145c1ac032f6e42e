-- What the choices that are left cost in the problem that is left.
use Rattle.base.proofs.Public.{◌≡◌, inl, inr, false, refl, cases_Bool, if◌then◌else◌, sum_to-same}
use Rattle.slices.specs.Prelude.{Choices, end_of, Instance, machine_count, node, node_count, vm}
use Rattle.cluster.specs.declared.{choices.Choice.Choice, choices.Choice.TheVariants.Act, choices.Choice.TheVariants.Idle, ids.Element.Element}
use Rattle.executor.specs.Phases.{is_ended, Phases}
use Rattle.repair.specs.Rest.{IsRest, rest_choices}
use Rattle.repair.specs.Laws.{RestCosts}
use Rattle.repair.proofs.KeptLemmas.{kept_duration, machines_as_many, nodes_as_many}

kept_end : (p : Instance) (plan : Choices) (phases : Phases) (q : Instance) → IsRest p plan phases q → (e : Element) → is_ended (phases e) ≡ false → (c : Choice) → end_of q e c ≡ end_of p e c
unfolding end_of
kept_end p plan phases q rest e h Idle = refl
kept_end p plan phases q rest e h (Act place start) = rw (kept_duration p plan phases q rest e h place) refl

no_end : (q : Instance) (e : Element) → end_of q e Idle ≡ 0
unfolding end_of
no_end q e = refl

end_again : (p : Instance) (plan : Choices) (phases : Phases) (q : Instance) → IsRest p plan phases q → (e : Element) →
    end_of q e (rest_choices plan phases e) ≡ (if is_ended (phases e) then 0 else end_of p e (plan e))
end_again p plan phases q rest e =
    elim (cases_Bool (is_ended (phases e))) [
      | inl over ↦ rw over (no_end q e)
      | inr open_still ↦ rw open_still (kept_end p plan phases q rest e open_still (plan e))
    ]

pub rest_costs : RestCosts
rest_costs p plan phases q rest =
    rw (
      machines_as_many p plan phases q rest,
      nodes_as_many p plan phases q rest,
      sum_to-same (machine_count p) _ _ (λ v l. end_again p plan phases q rest (vm v)),
      sum_to-same (node_count p) _ _ (λ n l. end_again p plan phases q rest (node n)),
    ) refl
