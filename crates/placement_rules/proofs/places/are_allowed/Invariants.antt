use Rattle.placement_rules.proofs.Prelude.{ℕ, take, IsTrue, choices_of, is_member, IsAllowed, places_seen, snapshot_at}
use Rattle.placement_rules.proofs.places.are_allowed.Given as goal

abbrev pub invariant-loop-v : goal.invariant-loop-v
invariant-loop-v l =
    (v : ℕ) → IsTrue (is_member (take l.v-index l.machines) v) → IsAllowed l.p.given (snapshot_at l.p.given (choices_of l.plan) l.t) (places_seen l.places) v
