use Rattle.rule_constraint.proofs.Prelude.{inl, inr, subst, Contains}
use Rattle.rule_constraint.specs.Prelude.{Vm}
use Rattle.rule_constraint.proofs.index.ConstraintIndex.has_clean.Goals as goal

pub is_one_clean-requires-clause-numbers : goal.is_one_clean-requires-clause-numbers
is_one_clean-requires-clause-numbers c = λ i h. c.requires.right.within (Vm c.args.v) i (inl (subst (λ xs. Contains xs i) c.of_machine.ensures h))

pub is_one_clean-requires-else-is_one_clean-clause-numbers : goal.is_one_clean-requires-else-is_one_clean-clause-numbers
is_one_clean-requires-else-is_one_clean-clause-numbers c = λ i h. c.requires.right.within (Vm c.args.v) i (inr (subst (λ xs. Contains xs i) c.everywhere.ensures h))
