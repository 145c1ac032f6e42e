use Rattle.std.proofs.Common.{◌≡◌, ◌++◌}
use Rattle.remake.specs.Making.{instance_with}
use Rattle.remake.proofs.making.problem_with.Given as goal

abbrev pub invariant-loop-constraint : goal.invariant-loop-constraint
invariant-loop-constraint l = record {
  made : l.problem.given ≡ instance_with l.fn.cluster.given l.horizon l.yielded;
  whole : l.yielded ++ l.constraint-iterator.rest.items ≡ l.fn.constraints.items;
  can_next : (goal.iterator-loop-constraint).can_next l.constraint-iterator;
  is_finite : (goal.iterator-loop-constraint).is_finite l.constraint-iterator;
}
