use Rattle.std.proofs.Common.{◌≡◌, [], ◌++◌}
use Rattle.remake.proofs.making.cluster_with.Given as goal

abbrev pub invariant-loop-node : goal.invariant-loop-node
invariant-loop-node l = record {
  made : l.cluster.given ≡ record l.of.given { nodes = l.yielded; machines = [] };
  whole : l.yielded ++ l.node-iterator.rest.items ≡ l.fn.nodes.items;
  can_next : (goal.iterator-loop-node).can_next l.node-iterator;
  is_finite : (goal.iterator-loop-node).is_finite l.node-iterator;
}

abbrev pub invariant-loop-machine : goal.invariant-loop-machine
invariant-loop-machine l = record {
  made : l.cluster.given ≡ record l.of.given { nodes = l.fn.nodes.items; machines = l.yielded };
  whole : l.yielded ++ l.machine-iterator.rest.items ≡ l.fn.machines.items;
  can_next : (goal.iterator-loop-machine).can_next l.machine-iterator;
  is_finite : (goal.iterator-loop-machine).is_finite l.machine-iterator;
}
