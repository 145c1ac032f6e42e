use Rattle.rule_pair.proofs.Prelude.{◌∙◌, machine_count, sets, below_parts}
use Rattle.rule_pair.proofs.ApartLemmas.{between_clear, each_clear, from_others_clear, on_clear}
use Rattle.rule_pair.proofs.clear.all_alone.Goals as goal

pub parts_alone-requires-clause-machines : goal.parts_alone-requires-clause-machines
parts_alone-requires-clause-machines c = rw c.items-in-Between.ensures (below_parts (machine_count c.args.p.now.given) c.in-Between.parts.now ∙ (rw c.in-Between.is at c.requires.machines))

pub returns-in-Each : goal.returns-in-Each
returns-in-Each c = rw c.in-Each.is (on_clear c.each_alone.result _ _ (each_clear c.args.p.now.given (sets c.args.g.now) c.args.from c.in-Each.machines.now) (rw c.items.ensures at c.each_alone.ensures))

pub returns-in-Between : goal.returns-in-Between
returns-in-Between c = rw c.in-Between.is (on_clear c.parts_alone.result _ _ (between_clear c.args.p.now.given (sets c.args.g.now) c.args.from c.in-Between.parts.now) (rw c.items-in-Between.ensures at c.parts_alone.ensures))

pub returns-in-FromOthers : goal.returns-in-FromOthers
returns-in-FromOthers c =
    rw c.in-FromOthers.is (on_clear c.strangers_alone.result _ _ (from_others_clear c.args.p.now.given (sets c.args.g.now) c.args.from c.in-FromOthers.machines.now) (rw c.items-in-FromOthers.ensures at c.strangers_alone.ensures))
