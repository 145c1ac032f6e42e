use Rattle.closing.proofs.Prelude.{ℕ, ◌<◌, ◌≤◌, machine_count, node, sets, StartsPast, vm}
use Rattle.closing.proofs.shared.change_instants.next_of_all.Given as goal

abbrev pub invariant-loop-v : goal.invariant-loop-v
invariant-loop-v l = record {
  later : l.after < l.next;
  less : l.next ≤ l.last;
  machines : (v : ℕ) → v < l.v → StartsPast (sets l.g (vm v)) l.after l.next;
}

abbrev pub invariant-loop-n : goal.invariant-loop-n
invariant-loop-n l = record {
  later : l.after < l.next;
  less : l.next ≤ l.last;
  machines : (v : ℕ) → v < machine_count l.p.given → StartsPast (sets l.g (vm v)) l.after l.next;
  nodes : (n : ℕ) → n < l.n → StartsPast (sets l.g (node n)) l.after l.next;
}
