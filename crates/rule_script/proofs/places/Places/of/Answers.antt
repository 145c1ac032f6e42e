use Rattle.base.proofs.Public.{◌∙◌, ap, ℕ, if◌then◌else◌}
use Rattle.cluster.specs.Prelude.{max_machines, max_nodes}
use Rattle.rule_script.specs.Marks.{in_list}
use Rattle.rule_script.proofs.ElementLemmas.{no_numbers}
use Rattle.rule_script.proofs.places.Places.of.Goals as goal

pub returns : goal.returns
returns c = λ x.
    c.set_all.ensures x
    ∙ ap (λ (old : ℕ). if in_list c.args.list.now x then 1 else old) (no_numbers max_machines max_nodes c.in_ok-places.places c.in_ok-places.ensures.machines c.in_ok-places.ensures.nodes x)
