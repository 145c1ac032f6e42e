use Rattle.std.proofs.Common.{◌≡◌, length}
use Rattle.repair.specs.Prelude.{choices_of, done_choices, node, node_after, phases_of}
use Rattle.repair.proofs.GoingLemmas.{AreChangedBelow}
use Rattle.repair.proofs.going_on.rest_nodes.Given as goal

abbrev pub invariant-loop-i : goal.invariant-loop-i
invariant-loop-i l = record {
  count : length l.nodes.items ≡ l.i;
  below : AreChangedBelow (λ n. node_after (done_choices (choices_of l.plan) (phases_of l.m) (node n))) l.p.given.nodes l.i l.nodes.items;
}
