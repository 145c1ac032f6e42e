use Rattle.rule_pair.proofs.Prelude.{◌∙◌, below_parts, machine_count}
use Rattle.rule_pair.proofs.suggest.suggest_apart_from.Goals as goal

pub suggest_parts_beside-requires-clause-machines : goal.suggest_parts_beside-requires-clause-machines
suggest_parts_beside-requires-clause-machines c = rw c.items-in-Between.ensures (below_parts (machine_count c.args.p.now.given) c.in-Between.parts.now ∙ (rw c.in-Between.is at c.requires.machines))
