use Rattle.rule_load.proofs.total_look.has_always_enough.Goals as goal

pub returns-else-is_roomy : goal.returns-else-is_roomy
returns-else-is_roomy c = λ on. (rw c.always.ensures at (c.has_enough.ensures on))
