use Rattle.rule_pair.proofs.Prelude.{◌∙◌, machine_count, below_parts}
use Rattle.rule_pair.proofs.twins.has_twin.Goals as goal

pub has_twin_beside-requires-clause-machines : goal.has_twin_beside-requires-clause-machines
has_twin_beside-requires-clause-machines c = rw c.items.ensures (below_parts (machine_count c.args.p.now.given) c.in-Between.parts.now ∙ (rw c.in-Between.is at c.requires.machines))

pub returns-in-Between : goal.returns-in-Between
returns-in-Between c = λ yes. rw c.in-Between.is (rw c.items.ensures at c.has_twin_beside.ensures yes)

pub returns-in-FromOthers : goal.returns-in-FromOthers
returns-in-FromOthers c = λ yes. rw c.in-FromOthers.is (c.has_twin_alike.ensures yes)
