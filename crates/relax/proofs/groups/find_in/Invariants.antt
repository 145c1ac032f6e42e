use Rattle.relax.proofs.Prelude.{◌≡◌, ℕ, ◌<◌, false, get_or, nodes_of, seen, sure, VmId}
use Rattle.relax.proofs.groups.find_in.Given as goal

abbrev pub invariant-loop-i : goal.invariant-loop-i
invariant-loop-i l =
    (k : ℕ) (d : VmId) → k < l.i → (sure l.p.given (seen l.view.region.now l.view.lens) l.t).present (get_or l.machines k d).0 (nodes_of l.p.given l.area) ≡ false
