use Rattle.placement_rules.proofs.Prelude.{◌∙◌, machine_count, below_parts}
use Rattle.placement_rules.proofs.apart.are_apart.Goals as goal

pub is_split-requires-clause-machines : goal.is_split-requires-clause-machines
is_split-requires-clause-machines c =
    let n = machine_count c.args.p.now.given in
    rw c.items-in-Between.ensures (below_parts n c.in-Between.parts.now ∙ (rw c.in-Between.is at c.requires.machines))

pub returns-in-Each : goal.returns-in-Each
returns-in-Each c = rw c.in-Each.is (rw c.items.ensures at c.is_spread.ensures)

pub returns-in-Between : goal.returns-in-Between
returns-in-Between c = rw c.in-Between.is (rw c.items-in-Between.ensures at c.is_split.ensures)

pub returns-in-FromOthers : goal.returns-in-FromOthers
returns-in-FromOthers c = rw c.in-FromOthers.is (rw c.items-in-FromOthers.ensures at c.is_lonely.ensures)
