use Rattle.closing.proofs.Prelude.{ℕ, ◌<◌, ◌≤◌, get_or, sets, StartsPast, vm, VmId}
use Rattle.closing.proofs.shared.change_instants.next_of_some.Given as goal

abbrev pub invariant-loop-i : goal.invariant-loop-i
invariant-loop-i l = record {
  later : l.after < l.next;
  less : l.next ≤ l.last;
  machines : (k : ℕ) (d : VmId) → k < l.i → StartsPast (sets l.g (vm (get_or l.machines k d).0)) l.after l.next;
}
