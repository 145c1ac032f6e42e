use Rattle.std.proofs.Common.{◌≡◌, length}
use Rattle.repair.specs.Prelude.{choices_of, done_choices, machine_after, phases_of, vm}
use Rattle.repair.proofs.GoingLemmas.{AreChangedBelow}
use Rattle.repair.proofs.going_on.rest_machines.Given as goal

abbrev pub invariant-loop-i : goal.invariant-loop-i
invariant-loop-i l = record {
  count : length l.machines.items ≡ l.i;
  below : AreChangedBelow (λ v. machine_after l.p.given v (done_choices (choices_of l.plan) (phases_of l.m) (vm v))) l.p.given.machines l.i l.machines.items;
}
