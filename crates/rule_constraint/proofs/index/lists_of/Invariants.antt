use Rattle.rule_constraint.specs.Indexes.{IsIndexOf}
use Rattle.rule_constraint.proofs.index.lists_of.Given as goal

abbrev pub invariant-loop-c : goal.invariant-loop-c
invariant-loop-c l = IsIndexOf l.p.given l.c l.lists
