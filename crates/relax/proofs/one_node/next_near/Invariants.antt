use Rattle.relax.proofs.Prelude.{◌≡◌, ℕ, ◌≤◌, ◌<◌, held_at, least, one, seen, vm, Weight}
use Rattle.relax.proofs.one_node.next_near.Given as goal

abbrev pub invariant-loop-i : goal.invariant-loop-i
invariant-loop-i l = (v : ℕ) → l.from ≤ v → v < l.i → (w : Weight) (t : ℕ) → least (held_at l.p.given v w (one l.n.0) t) (seen l.view.region.now l.view.lens (vm v)) ≡ 0
