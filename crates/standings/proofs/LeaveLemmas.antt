-- How a machine leaves that runs.
use Rattle.standings.proofs.Prelude.{◌≡◌, ◌≢◌, ℕ, ◌+◌, ◌<◌, ◌≤◌, Bool, true, false, ◌==◌, nat_lt, Option, Some, None, refl, sym, ap, ◌∙◌, arith, ne_eqb, nat_tests, Act, action_duration, AreLeaves, At, Clash, duration_of, end_of, Instance, is_raised, Keep, Killed as ToKilled, Kind, kind_duration, kind_of, leave_of, Leaves, machine_kind, max_action, Migrate, node_count, NodeId, Offline as ToOffline, Online as ToOnline, Ready as ToReady, Sleeping as ToSleeping, State, state_of, To, vm, wanted_state, Wish, Running}
use Rattle.standings.specs.Prelude.{Running as ToRunning}

-- ---- the kind of the action to another node

-- what takes a machine that runs to another node, by what is wanted of it
abbrev pub away : Wish → Option Kind
away (To ToRunning) = Some Migrate
away w = None

kind-away : (h n : NodeId) (w : Wish) (raised : Bool) → (n.0 == h.0) ≡ false → machine_kind (Running h) w raised (At n) ≡ away w
kind-away h n Keep raised e = refl
kind-away h n Clash raised e = refl
kind-away h n (To ToOnline) raised e = refl
kind-away h n (To ToOffline) raised e = refl
kind-away h n (To ToRunning) raised e = rw e refl
kind-away h n (To ToSleeping) raised e = rw e refl
kind-away h n (To ToReady) raised e = refl
kind-away h n (To ToKilled) raised e = refl

of-running : (s : State) (h n : NodeId) (w : Wish) (raised : Bool) → s ≡ Running h → (n.0 == h.0) ≡ false → machine_kind s w raised (At n) ≡ away w
of-running s h n w raised runs e = rw runs (kind-away h n w raised e)

module _ (p : Instance) (v : ℕ) (h : NodeId) (runs : state_of p v ≡ Running h) where
  kind-there : (n : NodeId) → n.0 < node_count p → (n.0 == h.0) ≡ false → kind_of p (vm v) (At n) ≡ away (wanted_state p v)
  unfolding kind_of
  kind-there n l e =
      let there : nat_lt n.0 (node_count p) ≡ true = grind (arith, nat_tests, l) in
      rw there (of-running (state_of p v) h n (wanted_state p v) (is_raised p v) runs e)

  leave-there : (m n : NodeId) (start : ℕ) → m.0 < node_count p → (m.0 == h.0) ≡ false → kind_of p (vm v) (At m) ≡ Some Migrate → n.0 < node_count p → (n.0 == h.0) ≡ false → leave_of p v (Act (At n) start) ≡ start + duration_of p (vm v) Migrate
  unfolding end_of action_duration kind_duration
  leave-there m n start lm em is ln en =
      let same : kind_of p (vm v) (At n) ≡ Some Migrate = kind-there n ln en ∙ sym (kind-there m lm em) ∙ is in
      rw same refl

pub are_leaves : (p : Instance) (v : ℕ) (m : NodeId) (x : Leaves) → state_of p v ≡ Running x.host → m.0 < node_count p → m.0 ≢ x.host.0 → kind_of p (vm v) (At m) ≡ Some Migrate → x.lasts ≡ duration_of p (vm v) Migrate → x.lasts ≤ max_action → AreLeaves p v x
are_leaves p v m x runs l ne is lasts small = record {
  small = small;
  each = λ n start ln nn. leave-there p v x.host runs m n start l (ne_eqb m.0 x.host.0 ne) is ln (ne_eqb n.0 x.host.0 nn) ∙ ap (λ k. start + k) (sym lasts);
}
