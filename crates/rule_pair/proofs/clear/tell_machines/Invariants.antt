use Rattle.rule_pair.proofs.Prelude.{ℕ, ◌<◌, get_or, IsTold, part_of, sets, VmId}
use Rattle.rule_pair.proofs.ApartLemmas.{AreTold}
use Rattle.rule_pair.proofs.clear.tell_machines.Given as goal

abbrev pub invariant-loop-i : goal.invariant-loop-i
invariant-loop-i l =
    AreTold l.fn.table l.table ((k : ℕ) (d : VmId) → k < l.i → IsTold l.p.given (sets l.g) l.table l.from (part_of l.part (get_or l.machines k d).0) (get_or l.machines k d).0)
