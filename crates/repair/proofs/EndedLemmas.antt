-- A machine whose action has ended, in the state to which it has led: what it holds, whether it may idle there, and where its host comes from.
use Rattle.base.proofs.Public.{◌≡◌, ◌⊎◌, inl, inr, ℕ, ◌+◌, Bool, true, false, not, ◌==◌, ◌&&◌, ◌||◌, nat_lt, Option, Some, IsSome, IfSome, IsTrue, if◌then◌else◌, refl, sym, subst, ◌∙◌, arith, eq-eqb, lt-ltb, or_left, or_right}
use Rattle.slices.specs.Prelude.{end_wish, host_of, idle_slices, Instance, machine_kind, may_machine_idle, may_node_idle, node_kind, Nodes, one, slices_by, weigh, weight_of}
use Rattle.catalogue.specs.declared.{targets.Target.Target, targets.Wish.TheVariants.Clash, targets.Wish.TheVariants.Keep, targets.Wish.TheVariants.To, targets.Wish.Wish}
use Rattle.cluster.specs.declared.{choices.Place.Place, choices.Place.TheVariants.At, choices.Place.TheVariants.Nowhere, ids.NodeId.NodeId, kinds.Kind.Kind, states.State.State, states.State.TheVariants.Gone, states.State.TheVariants.Init}
use Rattle.slices.specs.declared.{slice.Slices.Slices, slice.Weight.TheVariants.Image, slice.Weight.TheVariants.Presence, slice.Weight.Weight, slice.What.TheVariants.Demand, slice.What.TheVariants.Raise, slice.What.TheVariants.Use, stage.Stage.Stage}
use Rattle.cluster.specs.declared.states.State.TheVariants.{Ready, Running, Sleeping}
use Rattle.catalogue.specs.declared.targets.Target.TheVariants.{Online as ToOnline, Offline as ToOffline, Running as ToRunning, Sleeping as ToSleeping, Ready as ToReady, Killed as ToKilled}
use Rattle.slices.specs.declared.slice.What.TheVariants.{Image as OfImage}
use Rattle.repair.specs.Rest.{state_after}
use Rattle.repair.proofs.RowLemmas.{by_row, no_kind, OfRows}

-- ---- what it holds

-- the stage of an action that is over
abbrev pub full : Stage
full = record { started = true; ended = true }

abbrev pub weighs : Instance → ℕ → Weight → Slices → Stage → Nodes → ℕ
weighs p v w x g set = weigh p v w x.source g set + weigh p v w x.target g set + weigh p v w x.image g set

off : (b : Bool) (m : ℕ) → (if b && false then m else 0) ≡ 0
off true m = refl
off false m = refl

-- what is held at the destination
arrived : (m : ℕ) → 0 + m + 0 ≡ m + 0 + 0
arrived m = omega arith

-- a use with its raise
joined : (b : Bool) (x y z : ℕ) → x + y ≡ z → (if b && true then x else 0) + (if b && true then y else 0) + 0 ≡ (if b && true then z else 0) + 0 + 0
joined true x y z e = omega (arith, e)
joined false x y z e = refl

-- in the problem q what runs weighs as its demand in p
abbrev pub RunsAsWanted : Instance → Instance → ℕ → Weight → State → Type 0
RunsAsWanted p q v w Init = Unit {0}
RunsAsWanted p q v w Ready = Unit {0}
RunsAsWanted p q v w (Running h) = weight_of q v w Use ≡ weight_of p v w Demand
RunsAsWanted p q v w (Sleeping h) = Unit {0}
RunsAsWanted p q v w Gone = Unit {0}

module _ (p q : Instance) (v : ℕ) (w : Weight) (image : weight_of q v w OfImage ≡ weight_of p v w OfImage) (raise : weight_of p v w Use + weight_of p v w Raise ≡ weight_of p v w Demand) (set : Nodes) (g : Stage) where
  abbrev HoldsThere : State → Wish → Place → Option Kind → Type 0
  HoldsThere s wish place kind =
      RunsAsWanted p q v w (state_after s kind place) → weighs p v w (slices_by s place kind) full set ≡ weighs q v w (idle_slices (state_after s kind place)) g set

  holds_rows : OfRows HoldsThere
  unfolding slices_by
  holds_rows = record {
    forge = λ uses. refl;
    boot = λ n uses. rw uses (arrived _);
    kill_ready = λ uses. refl;
    migrate = λ h n uses. rw (off (set h.0) (weight_of p v w Use), uses) (arrived _);
    allocate = λ h uses. rw uses (joined (set h.0) (weight_of p v w Use) (weight_of p v w Raise) (weight_of p v w Demand) raise);
    shutdown = λ h uses. rw (off (set h.0) (weight_of p v w Use)) refl;
    suspend = λ h uses. rw (off (set h.0) (weight_of p v w Use), image) refl;
    kill_running = λ h uses. rw (off (set h.0) (weight_of p v w Use)) refl;
    resume = λ h n uses. rw (off (set h.0) (weight_of p v w OfImage), uses) (arrived _);
    kill_sleeping = λ h uses. rw (off (set h.0) (weight_of p v w OfImage)) refl;
  }

  -- what it holds once its action is over is what it holds when it idles there
  pub ended_holds : (s : State) (wish : Wish) (raised : Bool) (place : Place) → IsSome (machine_kind s wish raised place) → RunsAsWanted p q v w (state_after s (machine_kind s wish raised place) place) →
      weighs p v w (slices_by s place (machine_kind s wish raised place)) full set ≡ weighs q v w (idle_slices (state_after s (machine_kind s wish raised place) place)) g set
  ended_holds s wish raised place some = by_row HoldsThere holds_rows s wish raised place some

-- ---- whether it may idle

to_target : (s : State) (t : Target) → end_wish s (To t) ≡ To t
to_target Ready t = refl
to_target _ t = refl

clashes : (s : State) → end_wish s Clash ≡ Clash
clashes Ready = refl
clashes _ = refl

-- what is wanted stays so in the wanted state
still_wanted : (s after : State) (w : Wish) (t : Target) → end_wish s w ≡ To t → end_wish after Keep ≡ To t → end_wish after w ≡ To t
still_wanted s after Keep t e k = k
still_wanted s after (To u) t e k = to_target after u ∙ sym (to_target s u) ∙ e
still_wanted s after Clash t e k = let clash : Clash ≡ To t = sym (clashes s) ∙ e in absurd (cc)

-- what runs has no raised demand
abbrev pub IsNotRaised : Bool → State → Type 0
IsNotRaised raised Init = Unit {0}
IsNotRaised raised Ready = Unit {0}
IsNotRaised raised (Running h) = raised ≡ false
IsNotRaised raised (Sleeping h) = Unit {0}
IsNotRaised raised Gone = Unit {0}

module _ (raised : Bool) where
  abbrev MayIdleThere : State → Wish → Place → Option Kind → Type 0
  MayIdleThere s wish place kind =
      (w : Wish) → end_wish s w ≡ wish → IsNotRaised raised (state_after s kind place) → IsTrue (may_machine_idle (state_after s kind place) (end_wish (state_after s kind place) w) raised)

  idle_rows : OfRows MayIdleThere
  idle_rows = record {
    forge = λ w e low. rw (still_wanted Init Ready w ToReady e refl) refl;
    boot = λ n w e low. rw (still_wanted Ready (Running n) w ToRunning e refl, low) refl;
    kill_ready = λ w e low. rw (still_wanted Ready Gone w ToKilled e refl) refl;
    migrate = λ h n w e low. rw (still_wanted (Running h) (Running n) w ToRunning e refl, low) refl;
    allocate = λ h w e low. rw (still_wanted (Running h) (Running h) w ToRunning e refl, low) refl;
    shutdown = λ h w e low. rw (still_wanted (Running h) Ready w ToReady e refl) refl;
    suspend = λ h w e low. rw (still_wanted (Running h) (Sleeping h) w ToSleeping e refl) refl;
    kill_running = λ h w e low. rw (still_wanted (Running h) Gone w ToKilled e refl) refl;
    resume = λ h n w e low. rw (still_wanted (Sleeping h) (Running n) w ToRunning e refl, low) refl;
    kill_sleeping = λ h w e low. rw (still_wanted (Sleeping h) Gone w ToKilled e refl) refl;
  }

  pub may_idle_there : (s : State) (w : Wish) (was_raised : Bool) (place : Place) → IsSome (machine_kind s (end_wish s w) was_raised place) →
      IsNotRaised raised (state_after s (machine_kind s (end_wish s w) was_raised place) place) →
      IsTrue (may_machine_idle (state_after s (machine_kind s (end_wish s w) was_raised place) place) (end_wish (state_after s (machine_kind s (end_wish s w) was_raised place) place) w) raised)
  may_idle_there s w was_raised place some = by_row MayIdleThere idle_rows s (end_wish s w) was_raised place some w refl

-- a node that has booted or shut down may idle
pub node_may_idle : (online : Bool) (w : Wish) (place : Place) → IsSome (node_kind online w place) → IsTrue (may_node_idle (not online) w)
node_may_idle online Clash place some = no_kind some
node_may_idle online w (At n) some = no_kind some
node_may_idle true (To ToOnline) Nowhere some = no_kind some
node_may_idle true w Nowhere some = refl
node_may_idle false (To ToOffline) Nowhere some = no_kind some
node_may_idle false w Nowhere some = refl

-- ---- its host

-- what is so of the host, if there is one
at_host : (P : NodeId → Type 0) (s : State) (h : NodeId) → host_of s ≡ Some h → IfSome (host_of s) P → P h
at_host P s h e there = subst (λ (o : Option NodeId). IfSome o P) e there

-- the new host is the place of the action or the old host
abbrev HostComesFrom : State → Wish → Place → Option Kind → Type 0
HostComesFrom s wish place kind = IfSome (host_of (state_after s kind place)) (λ h. (place ≡ At h) ⊎ (host_of s ≡ Some h))

host_rows : OfRows HostComesFrom
host_rows = record {
  forge = tt;
  boot = λ n. inl refl;
  kill_ready = tt;
  migrate = λ h n. inl refl;
  allocate = λ h. inl refl;
  shutdown = λ h. tt;
  suspend = λ h. inr refl;
  kill_running = λ h. tt;
  resume = λ h n. inl refl;
  kill_sleeping = λ h. tt;
}

pub host_from : (s : State) (wish : Wish) (raised : Bool) (place : Place) → IsSome (machine_kind s wish raised place) → (h : NodeId) → host_of (state_after s (machine_kind s wish raised place) place) ≡ Some h →
    (place ≡ At h) ⊎ (host_of s ≡ Some h)
host_from s wish raised place some h e =
    at_host (λ h. (place ≡ At h) ⊎ (host_of s ≡ Some h)) (state_after s (machine_kind s wish raised place) place) h e (by_row HostComesFrom host_rows s wish raised place some)

-- ---- a machine stands on its host while it idles, and until its action has ended

abbrev pub stands : Instance → ℕ → Slices → Stage → NodeId → Bool
stands p v x g h = nat_lt 0 (weighs p v Presence x g (one h.0)) || nat_lt 0 (weighs p v Image x g (one h.0))

itself : (h : NodeId) → (h.0 == h.0) ≡ true
itself h = eq-eqb h.0 h.0 refl

module _ (p : Instance) (v : ℕ) (g : Stage) where
  -- what runs is present on its host, and what sleeps has its image there
  abbrev HasHost : State → Slices → Type 0
  HasHost Init x = Unit {0}
  HasHost Ready x = Unit {0}
  HasHost (Running h) x = nat_lt 0 (weighs p v Presence x g (one h.0)) ≡ true
  HasHost (Sleeping h) x = nat_lt 0 (weighs p v Image x g (one h.0)) ≡ true
  HasHost Gone x = Unit {0}

  on_host : (s : State) (x : Slices) → HasHost s x → (h : NodeId) → host_of s ≡ Some h → stands p v x g h ≡ true
  on_host s x has h e = at_host (λ h. stands p v x g h ≡ true) s h e (by s has)
    where
      by : (s : State) → HasHost s x → IfSome (host_of s) (λ h. stands p v x g h ≡ true)
      by Init has = tt
      by Ready has = tt
      by (Running h) has = or_left (nat_lt 0 (weighs p v Presence x g (one h.0))) (nat_lt 0 (weighs p v Image x g (one h.0))) has
      by (Sleeping h) has = or_right (nat_lt 0 (weighs p v Presence x g (one h.0))) (nat_lt 0 (weighs p v Image x g (one h.0))) has
      by Gone has = tt

  idle_has_host : (s : State) → HasHost s (idle_slices s)
  idle_has_host Init = tt
  idle_has_host Ready = tt
  idle_has_host (Running h) = rw (itself h) refl
  idle_has_host (Sleeping h) = rw (itself h) refl
  idle_has_host Gone = tt

  pub idles_on : (s : State) (h : NodeId) → host_of s ≡ Some h → stands p v (idle_slices s) g h ≡ true
  idles_on s h e = on_host s (idle_slices s) (idle_has_host s) h e

  abbrev HasHostThere : State → Wish → Place → Option Kind → Type 0
  HasHostThere s wish place kind = HasHost s (slices_by s place kind)

  host_kept : g.ended ≡ false → OfRows HasHostThere
  unfolding slices_by
  host_kept unended = record {
    forge = tt;
    boot = λ n. tt;
    kill_ready = tt;
    migrate = λ h n. rw (itself h, unended) (lt-ltb 0 _ (omega arith));
    allocate = λ h. rw (itself h) (lt-ltb 0 _ (omega arith));
    shutdown = λ h. rw (itself h, unended) refl;
    suspend = λ h. rw (itself h, unended) (lt-ltb 0 _ (omega arith));
    kill_running = λ h. rw (itself h, unended) refl;
    resume = λ h n. rw (itself h, unended) (lt-ltb 0 _ (omega arith));
    kill_sleeping = λ h. rw (itself h, unended) refl;
  }

  pub acts_on : g.ended ≡ false → (s : State) (wish : Wish) (raised : Bool) (place : Place) → IsSome (machine_kind s wish raised place) → (h : NodeId) → host_of s ≡ Some h →
      stands p v (slices_by s place (machine_kind s wish raised place)) g h ≡ true
  acts_on unended s wish raised place some h e =
      on_host s (slices_by s place (machine_kind s wish raised place)) (by_row HasHostThere (host_kept unended) s wish raised place some) h e
