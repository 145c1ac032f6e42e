use Rattle.base.proofs.Public.{◌≡◌, ◌++◌, map}
use Rattle.part_solver.specs.Solved.{plan_of}
use Rattle.part_solver.proofs.answering.plans_of.Given as goal

abbrev pub invariant-loop-part : goal.invariant-loop-part
invariant-loop-part l = record {
  made : l.plans.items ≡ map plan_of l.yielded;
  whole : l.yielded ++ l.part-iterator.rest.items ≡ l.fn.solved.items;
  can_next : (goal.iterator-loop-part).can_next l.part-iterator;
  is_finite : (goal.iterator-loop-part).is_finite l.part-iterator;
}
