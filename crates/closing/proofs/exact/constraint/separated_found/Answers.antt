use Rattle.closing.proofs.{Prelude.◌∙◌, Prelude.machine_count, Prelude.sets, Prelude.below_parts, RuleLemmas.between_found, RuleLemmas.each_found, RuleLemmas.from_others_found}
use Rattle.closing.proofs.exact.constraint.separated_found.Goals as goal

pub split_found-requires-clause-machines : goal.split_found-requires-clause-machines
split_found-requires-clause-machines c =
    rw c.items-in-Between.ensures (below_parts (machine_count c.args.p.now.given) c.in-Between.parts.now ∙ (rw c.in-Between.is at c.requires.machines))

pub returns-in-Each : goal.returns-in-Each
returns-in-Each c =
    rw c.in-Each.is
    (each_found c.args.p.now.given (sets c.args.g.now) c.args.t c.spread_found.result c.in-Each.machines.now (rw c.in-Each.is at c.requires.machines) (rw c.items.ensures at c.spread_found.ensures))

pub returns-in-Between : goal.returns-in-Between
returns-in-Between c =
    rw c.in-Between.is
    (between_found c.args.p.now.given (sets c.args.g.now) c.args.t c.split_found.result c.in-Between.parts.now (rw c.in-Between.is at c.requires.machines) (rw c.items-in-Between.ensures at c.split_found.ensures))

pub returns-in-FromOthers : goal.returns-in-FromOthers
returns-in-FromOthers c =
    rw c.in-FromOthers.is
    (from_others_found c.args.p.now.given (sets c.args.g.now) c.args.t c.lonely_found.result c.in-FromOthers.machines.now (rw c.in-FromOthers.is at c.requires.machines) (rw c.items-in-FromOthers.ensures at c.lonely_found.ensures))
