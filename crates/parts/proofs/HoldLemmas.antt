-- A machine and a node hold the same, and may do the same, where nodes have other numbers.
use Rattle.base.proofs.Public.{◌≡◌, inl, inr, ℕ, ◌+◌, ◌-◌, ◌<◌, ◌≤◌, Bool, true, false, ◌==◌, ◌&&◌, not, length, nat_le, nat_lt, if◌then◌else◌, Option, Some, None, is_some, refl, sym, ap, ap₂, subst, ◌∙◌, arith, cases_Bool, cases_lt, ltb-true, lt-ltb, list_any, range_with_len}
use Rattle.cluster.specs.declared.choices.Choice.{Choice}
use Rattle.cluster.specs.declared.choices.Choice.TheVariants.{Idle, Act}
use Rattle.cluster.specs.declared.choices.Place.{Place}
use Rattle.cluster.specs.declared.choices.Place.TheVariants.{Nowhere, At}
use Rattle.cluster.specs.declared.kinds.Kind.{Kind}
use Rattle.cluster.specs.declared.kinds.Kind.TheVariants.{Forge, Boot, Shutdown, Suspend, Resume, Migrate, Allocate, Kill, NodeBoot, NodeShutdown}
use Rattle.cluster.specs.declared.states.State.{State}
use Rattle.cluster.specs.declared.states.State.TheVariants.{Init, Ready, Running, Sleeping, Gone}
use Rattle.catalogue.specs.declared.targets.Target.TheVariants.{Online as ToOnline, Offline as ToOffline, Running as ToRunning, Sleeping as ToSleeping, Ready as ToReady, Killed as ToKilled}
use Rattle.catalogue.specs.declared.targets.Wish.{Wish}
use Rattle.catalogue.specs.declared.targets.Wish.TheVariants.{Keep, To, Clash}
use Rattle.catalogue.specs.Prelude.{Instance, is_online, wanted_of}
use Rattle.slices.specs.declared.slice.Slice.{Slice}
use Rattle.slices.specs.declared.slice.Slices.{Slices}
use Rattle.slices.specs.declared.slice.Weight.{Weight}
use Rattle.slices.specs.declared.slice.Weight.TheVariants.{Amount, Presence, Image}
use Rattle.slices.specs.declared.slice.What.{What}
use Rattle.slices.specs.declared.slice.What.TheVariants.{Use, Demand, Raise, Image as OfImage}
use Rattle.slices.specs.declared.stage.Progress.{Progress}
use Rattle.slices.specs.declared.stage.Progress.TheVariants.{Started, Unended, Acting}
use Rattle.slices.specs.declared.stage.Stage.{Stage}
use Rattle.slices.specs.Actions.{action_duration, choice_duration, end_of, end_wish, is_legal, is_raised, kind_duration, kind_of, machine_kind, may_idle, may_machine_idle, may_node_idle, node_kind}
use Rattle.slices.specs.Elements.{is_place, machine_count, node, node_count, state_of, vm}
use Rattle.slices.specs.Forms.{Form}
use Rattle.slices.specs.Holds.{runs_elsewhere}
use Rattle.slices.specs.Snapshots.{action_at, held_at, held_by, powered_at, stage_at, usable_at}
use Rattle.slices.specs.Stages.{Nodes, acting_slices, idle_slices, powered_of, progress_of, slices_by, slices_of, stage_of, usable_of, weigh, weight_of}
use Rattle.parts.specs.Cuts.{renumbered_choice, renumbered_node, renumbered_place, renumbered_state}
use Rattle.parts.specs.Embeds.{Embeds, node_at, vm_at}
use Rattle.parts.proofs.NumberLemmas.{old_apart, old_in, old_past}

abbrev renumbered_slice : (ℕ → ℕ) → Option Slice → Option Slice
renumbered_slice f None = None
renumbered_slice f (Some s) = Some (record s { node = renumbered_node f s.node })

abbrev renumbered_slices : (ℕ → ℕ) → Slices → Slices
renumbered_slices f x = record { source = renumbered_slice f x.source; target = renumbered_slice f x.target; image = renumbered_slice f x.image }

-- ---- the tables, with other numbers for nodes

module _ (f : ℕ → ℕ) (apart : (a b : ℕ) → (f a == f b) ≡ (a == b)) where
  -- the kind of a machine's action
  kind_renumbered : (s : State) (wish : Wish) (raised : Bool) (place : Place) → machine_kind (renumbered_state f s) wish raised (renumbered_place f place) ≡ machine_kind s wish raised place
  kind_renumbered Init Keep raised Nowhere = refl
  kind_renumbered Init Keep raised (At n) = refl
  kind_renumbered Init (To ToOnline) raised Nowhere = refl
  kind_renumbered Init (To ToOnline) raised (At n) = refl
  kind_renumbered Init (To ToOffline) raised Nowhere = refl
  kind_renumbered Init (To ToOffline) raised (At n) = refl
  kind_renumbered Init (To ToRunning) raised Nowhere = refl
  kind_renumbered Init (To ToRunning) raised (At n) = refl
  kind_renumbered Init (To ToSleeping) raised Nowhere = refl
  kind_renumbered Init (To ToSleeping) raised (At n) = refl
  kind_renumbered Init (To ToReady) raised Nowhere = refl
  kind_renumbered Init (To ToReady) raised (At n) = refl
  kind_renumbered Init (To ToKilled) raised Nowhere = refl
  kind_renumbered Init (To ToKilled) raised (At n) = refl
  kind_renumbered Init Clash raised Nowhere = refl
  kind_renumbered Init Clash raised (At n) = refl
  kind_renumbered Ready Keep raised Nowhere = refl
  kind_renumbered Ready Keep raised (At n) = refl
  kind_renumbered Ready (To ToOnline) raised Nowhere = refl
  kind_renumbered Ready (To ToOnline) raised (At n) = refl
  kind_renumbered Ready (To ToOffline) raised Nowhere = refl
  kind_renumbered Ready (To ToOffline) raised (At n) = refl
  kind_renumbered Ready (To ToRunning) raised Nowhere = refl
  kind_renumbered Ready (To ToRunning) raised (At n) = refl
  kind_renumbered Ready (To ToSleeping) raised Nowhere = refl
  kind_renumbered Ready (To ToSleeping) raised (At n) = refl
  kind_renumbered Ready (To ToReady) raised Nowhere = refl
  kind_renumbered Ready (To ToReady) raised (At n) = refl
  kind_renumbered Ready (To ToKilled) raised Nowhere = refl
  kind_renumbered Ready (To ToKilled) raised (At n) = refl
  kind_renumbered Ready Clash raised Nowhere = refl
  kind_renumbered Ready Clash raised (At n) = refl
  kind_renumbered (Running h) Keep raised Nowhere = refl
  kind_renumbered (Running h) Keep raised (At n) = refl
  kind_renumbered (Running h) (To ToOnline) raised Nowhere = refl
  kind_renumbered (Running h) (To ToOnline) raised (At n) = refl
  kind_renumbered (Running h) (To ToOffline) raised Nowhere = refl
  kind_renumbered (Running h) (To ToOffline) raised (At n) = refl
  kind_renumbered (Running h) (To ToRunning) raised Nowhere = refl
  kind_renumbered (Running h) (To ToRunning) raised (At n) = rw (apart n.0 h.0) refl
  kind_renumbered (Running h) (To ToSleeping) raised Nowhere = refl
  kind_renumbered (Running h) (To ToSleeping) raised (At n) = rw (apart n.0 h.0) refl
  kind_renumbered (Running h) (To ToReady) raised Nowhere = refl
  kind_renumbered (Running h) (To ToReady) raised (At n) = refl
  kind_renumbered (Running h) (To ToKilled) raised Nowhere = refl
  kind_renumbered (Running h) (To ToKilled) raised (At n) = refl
  kind_renumbered (Running h) Clash raised Nowhere = refl
  kind_renumbered (Running h) Clash raised (At n) = refl
  kind_renumbered (Sleeping h) Keep raised Nowhere = refl
  kind_renumbered (Sleeping h) Keep raised (At n) = refl
  kind_renumbered (Sleeping h) (To ToOnline) raised Nowhere = refl
  kind_renumbered (Sleeping h) (To ToOnline) raised (At n) = refl
  kind_renumbered (Sleeping h) (To ToOffline) raised Nowhere = refl
  kind_renumbered (Sleeping h) (To ToOffline) raised (At n) = refl
  kind_renumbered (Sleeping h) (To ToRunning) raised Nowhere = refl
  kind_renumbered (Sleeping h) (To ToRunning) raised (At n) = refl
  kind_renumbered (Sleeping h) (To ToSleeping) raised Nowhere = refl
  kind_renumbered (Sleeping h) (To ToSleeping) raised (At n) = refl
  kind_renumbered (Sleeping h) (To ToReady) raised Nowhere = refl
  kind_renumbered (Sleeping h) (To ToReady) raised (At n) = refl
  kind_renumbered (Sleeping h) (To ToKilled) raised Nowhere = refl
  kind_renumbered (Sleeping h) (To ToKilled) raised (At n) = refl
  kind_renumbered (Sleeping h) Clash raised Nowhere = refl
  kind_renumbered (Sleeping h) Clash raised (At n) = refl
  kind_renumbered Gone Keep raised Nowhere = refl
  kind_renumbered Gone Keep raised (At n) = refl
  kind_renumbered Gone (To ToOnline) raised Nowhere = refl
  kind_renumbered Gone (To ToOnline) raised (At n) = refl
  kind_renumbered Gone (To ToOffline) raised Nowhere = refl
  kind_renumbered Gone (To ToOffline) raised (At n) = refl
  kind_renumbered Gone (To ToRunning) raised Nowhere = refl
  kind_renumbered Gone (To ToRunning) raised (At n) = refl
  kind_renumbered Gone (To ToSleeping) raised Nowhere = refl
  kind_renumbered Gone (To ToSleeping) raised (At n) = refl
  kind_renumbered Gone (To ToReady) raised Nowhere = refl
  kind_renumbered Gone (To ToReady) raised (At n) = refl
  kind_renumbered Gone (To ToKilled) raised Nowhere = refl
  kind_renumbered Gone (To ToKilled) raised (At n) = refl
  kind_renumbered Gone Clash raised Nowhere = refl
  kind_renumbered Gone Clash raised (At n) = refl

  -- and whether it may be idle
  idles_renumbered : (s : State) (wish : Wish) (raised : Bool) → may_machine_idle (renumbered_state f s) wish raised ≡ may_machine_idle s wish raised
  idles_renumbered Init Keep raised = refl
  idles_renumbered Init (To ToOnline) raised = refl
  idles_renumbered Init (To ToOffline) raised = refl
  idles_renumbered Init (To ToRunning) raised = refl
  idles_renumbered Init (To ToSleeping) raised = refl
  idles_renumbered Init (To ToReady) raised = refl
  idles_renumbered Init (To ToKilled) raised = refl
  idles_renumbered Init Clash raised = refl
  idles_renumbered Ready Keep raised = refl
  idles_renumbered Ready (To ToOnline) raised = refl
  idles_renumbered Ready (To ToOffline) raised = refl
  idles_renumbered Ready (To ToRunning) raised = refl
  idles_renumbered Ready (To ToSleeping) raised = refl
  idles_renumbered Ready (To ToReady) raised = refl
  idles_renumbered Ready (To ToKilled) raised = refl
  idles_renumbered Ready Clash raised = refl
  idles_renumbered (Running h) Keep raised = refl
  idles_renumbered (Running h) (To ToOnline) raised = refl
  idles_renumbered (Running h) (To ToOffline) raised = refl
  idles_renumbered (Running h) (To ToRunning) raised = refl
  idles_renumbered (Running h) (To ToSleeping) raised = refl
  idles_renumbered (Running h) (To ToReady) raised = refl
  idles_renumbered (Running h) (To ToKilled) raised = refl
  idles_renumbered (Running h) Clash raised = refl
  idles_renumbered (Sleeping h) Keep raised = refl
  idles_renumbered (Sleeping h) (To ToOnline) raised = refl
  idles_renumbered (Sleeping h) (To ToOffline) raised = refl
  idles_renumbered (Sleeping h) (To ToRunning) raised = refl
  idles_renumbered (Sleeping h) (To ToSleeping) raised = refl
  idles_renumbered (Sleeping h) (To ToReady) raised = refl
  idles_renumbered (Sleeping h) (To ToKilled) raised = refl
  idles_renumbered (Sleeping h) Clash raised = refl
  idles_renumbered Gone Keep raised = refl
  idles_renumbered Gone (To ToOnline) raised = refl
  idles_renumbered Gone (To ToOffline) raised = refl
  idles_renumbered Gone (To ToRunning) raised = refl
  idles_renumbered Gone (To ToSleeping) raised = refl
  idles_renumbered Gone (To ToReady) raised = refl
  idles_renumbered Gone (To ToKilled) raised = refl
  idles_renumbered Gone Clash raised = refl

  -- and what is wanted of it at the end
  end_renumbered : (s : State) (wish : Wish) → end_wish (renumbered_state f s) wish ≡ end_wish s wish
  end_renumbered Init Keep = refl
  end_renumbered Init (To target) = refl
  end_renumbered Init Clash = refl
  end_renumbered Ready Keep = refl
  end_renumbered Ready (To target) = refl
  end_renumbered Ready Clash = refl
  end_renumbered (Running h) Keep = refl
  end_renumbered (Running h) (To target) = refl
  end_renumbered (Running h) Clash = refl
  end_renumbered (Sleeping h) Keep = refl
  end_renumbered (Sleeping h) (To target) = refl
  end_renumbered (Sleeping h) Clash = refl
  end_renumbered Gone Keep = refl
  end_renumbered Gone (To target) = refl
  end_renumbered Gone Clash = refl

  -- the kind of a node's action
  node_kind_renumbered : (online : Bool) (wish : Wish) (place : Place) → node_kind online wish (renumbered_place f place) ≡ node_kind online wish place
  node_kind_renumbered true Keep Nowhere = refl
  node_kind_renumbered true Keep (At n) = refl
  node_kind_renumbered true (To ToOnline) Nowhere = refl
  node_kind_renumbered true (To ToOnline) (At n) = refl
  node_kind_renumbered true (To ToOffline) Nowhere = refl
  node_kind_renumbered true (To ToOffline) (At n) = refl
  node_kind_renumbered true (To ToRunning) Nowhere = refl
  node_kind_renumbered true (To ToRunning) (At n) = refl
  node_kind_renumbered true (To ToSleeping) Nowhere = refl
  node_kind_renumbered true (To ToSleeping) (At n) = refl
  node_kind_renumbered true (To ToReady) Nowhere = refl
  node_kind_renumbered true (To ToReady) (At n) = refl
  node_kind_renumbered true (To ToKilled) Nowhere = refl
  node_kind_renumbered true (To ToKilled) (At n) = refl
  node_kind_renumbered true Clash Nowhere = refl
  node_kind_renumbered true Clash (At n) = refl
  node_kind_renumbered false Keep Nowhere = refl
  node_kind_renumbered false Keep (At n) = refl
  node_kind_renumbered false (To ToOnline) Nowhere = refl
  node_kind_renumbered false (To ToOnline) (At n) = refl
  node_kind_renumbered false (To ToOffline) Nowhere = refl
  node_kind_renumbered false (To ToOffline) (At n) = refl
  node_kind_renumbered false (To ToRunning) Nowhere = refl
  node_kind_renumbered false (To ToRunning) (At n) = refl
  node_kind_renumbered false (To ToSleeping) Nowhere = refl
  node_kind_renumbered false (To ToSleeping) (At n) = refl
  node_kind_renumbered false (To ToReady) Nowhere = refl
  node_kind_renumbered false (To ToReady) (At n) = refl
  node_kind_renumbered false (To ToKilled) Nowhere = refl
  node_kind_renumbered false (To ToKilled) (At n) = refl
  node_kind_renumbered false Clash Nowhere = refl
  node_kind_renumbered false Clash (At n) = refl

  -- a machine that runs elsewhere
  pub elsewhere_renumbered : (s : State) (m : ℕ) → runs_elsewhere (renumbered_state f s) (f m) ≡ runs_elsewhere s m
  elsewhere_renumbered Init m = refl
  elsewhere_renumbered Ready m = refl
  elsewhere_renumbered (Running h) m = ap not (apart h.0 m)
  elsewhere_renumbered (Sleeping h) m = refl
  elsewhere_renumbered Gone m = refl

  -- all of it together
  same_kind : (bp bq : Bool) → bp ≡ bq → (sp sq : State) → sp ≡ renumbered_state f sq → (wp wq : Wish) → wp ≡ wq → (rp rq : Bool) → rp ≡ rq → (place : Place) →
      (if bp then machine_kind sp (end_wish sp wp) rp (renumbered_place f place) else None) ≡ (if bq then machine_kind sq (end_wish sq wq) rq place else None)
  same_kind bp bq eb sp sq es wp wq ew rp rq er place = rw (eb, es, ew, er, end_renumbered sq wq, kind_renumbered sq (end_wish sq wq) rq place) refl

  same_idle : (sp sq : State) → sp ≡ renumbered_state f sq → (wp wq : Wish) → wp ≡ wq → (rp rq : Bool) → rp ≡ rq → may_machine_idle sp (end_wish sp wp) rp ≡ may_machine_idle sq (end_wish sq wq) rq
  same_idle sp sq es wp wq ew rp rq er = rw (es, ew, er, end_renumbered sq wq) (idles_renumbered sq (end_wish sq wq) rq)

-- ---- what is held

acting_renumbered : (f : ℕ → ℕ) (s : State) (kind : Kind) (place : Place) → acting_slices (renumbered_state f s) kind (renumbered_place f place) ≡ renumbered_slices f (acting_slices s kind place)
acting_renumbered f Init Forge Nowhere = refl
acting_renumbered f Init Forge (At n) = refl
acting_renumbered f Init Boot Nowhere = refl
acting_renumbered f Init Boot (At n) = refl
acting_renumbered f Init Shutdown Nowhere = refl
acting_renumbered f Init Shutdown (At n) = refl
acting_renumbered f Init Suspend Nowhere = refl
acting_renumbered f Init Suspend (At n) = refl
acting_renumbered f Init Resume Nowhere = refl
acting_renumbered f Init Resume (At n) = refl
acting_renumbered f Init Migrate Nowhere = refl
acting_renumbered f Init Migrate (At n) = refl
acting_renumbered f Init Allocate Nowhere = refl
acting_renumbered f Init Allocate (At n) = refl
acting_renumbered f Init Kill Nowhere = refl
acting_renumbered f Init Kill (At n) = refl
acting_renumbered f Init NodeBoot Nowhere = refl
acting_renumbered f Init NodeBoot (At n) = refl
acting_renumbered f Init NodeShutdown Nowhere = refl
acting_renumbered f Init NodeShutdown (At n) = refl
acting_renumbered f Ready Forge Nowhere = refl
acting_renumbered f Ready Forge (At n) = refl
acting_renumbered f Ready Boot Nowhere = refl
acting_renumbered f Ready Boot (At n) = refl
acting_renumbered f Ready Shutdown Nowhere = refl
acting_renumbered f Ready Shutdown (At n) = refl
acting_renumbered f Ready Suspend Nowhere = refl
acting_renumbered f Ready Suspend (At n) = refl
acting_renumbered f Ready Resume Nowhere = refl
acting_renumbered f Ready Resume (At n) = refl
acting_renumbered f Ready Migrate Nowhere = refl
acting_renumbered f Ready Migrate (At n) = refl
acting_renumbered f Ready Allocate Nowhere = refl
acting_renumbered f Ready Allocate (At n) = refl
acting_renumbered f Ready Kill Nowhere = refl
acting_renumbered f Ready Kill (At n) = refl
acting_renumbered f Ready NodeBoot Nowhere = refl
acting_renumbered f Ready NodeBoot (At n) = refl
acting_renumbered f Ready NodeShutdown Nowhere = refl
acting_renumbered f Ready NodeShutdown (At n) = refl
acting_renumbered f (Running h) Forge Nowhere = refl
acting_renumbered f (Running h) Forge (At n) = refl
acting_renumbered f (Running h) Boot Nowhere = refl
acting_renumbered f (Running h) Boot (At n) = refl
acting_renumbered f (Running h) Shutdown Nowhere = refl
acting_renumbered f (Running h) Shutdown (At n) = refl
acting_renumbered f (Running h) Suspend Nowhere = refl
acting_renumbered f (Running h) Suspend (At n) = refl
acting_renumbered f (Running h) Resume Nowhere = refl
acting_renumbered f (Running h) Resume (At n) = refl
acting_renumbered f (Running h) Migrate Nowhere = refl
acting_renumbered f (Running h) Migrate (At n) = refl
acting_renumbered f (Running h) Allocate Nowhere = refl
acting_renumbered f (Running h) Allocate (At n) = refl
acting_renumbered f (Running h) Kill Nowhere = refl
acting_renumbered f (Running h) Kill (At n) = refl
acting_renumbered f (Running h) NodeBoot Nowhere = refl
acting_renumbered f (Running h) NodeBoot (At n) = refl
acting_renumbered f (Running h) NodeShutdown Nowhere = refl
acting_renumbered f (Running h) NodeShutdown (At n) = refl
acting_renumbered f (Sleeping h) Forge Nowhere = refl
acting_renumbered f (Sleeping h) Forge (At n) = refl
acting_renumbered f (Sleeping h) Boot Nowhere = refl
acting_renumbered f (Sleeping h) Boot (At n) = refl
acting_renumbered f (Sleeping h) Shutdown Nowhere = refl
acting_renumbered f (Sleeping h) Shutdown (At n) = refl
acting_renumbered f (Sleeping h) Suspend Nowhere = refl
acting_renumbered f (Sleeping h) Suspend (At n) = refl
acting_renumbered f (Sleeping h) Resume Nowhere = refl
acting_renumbered f (Sleeping h) Resume (At n) = refl
acting_renumbered f (Sleeping h) Migrate Nowhere = refl
acting_renumbered f (Sleeping h) Migrate (At n) = refl
acting_renumbered f (Sleeping h) Allocate Nowhere = refl
acting_renumbered f (Sleeping h) Allocate (At n) = refl
acting_renumbered f (Sleeping h) Kill Nowhere = refl
acting_renumbered f (Sleeping h) Kill (At n) = refl
acting_renumbered f (Sleeping h) NodeBoot Nowhere = refl
acting_renumbered f (Sleeping h) NodeBoot (At n) = refl
acting_renumbered f (Sleeping h) NodeShutdown Nowhere = refl
acting_renumbered f (Sleeping h) NodeShutdown (At n) = refl
acting_renumbered f Gone Forge Nowhere = refl
acting_renumbered f Gone Forge (At n) = refl
acting_renumbered f Gone Boot Nowhere = refl
acting_renumbered f Gone Boot (At n) = refl
acting_renumbered f Gone Shutdown Nowhere = refl
acting_renumbered f Gone Shutdown (At n) = refl
acting_renumbered f Gone Suspend Nowhere = refl
acting_renumbered f Gone Suspend (At n) = refl
acting_renumbered f Gone Resume Nowhere = refl
acting_renumbered f Gone Resume (At n) = refl
acting_renumbered f Gone Migrate Nowhere = refl
acting_renumbered f Gone Migrate (At n) = refl
acting_renumbered f Gone Allocate Nowhere = refl
acting_renumbered f Gone Allocate (At n) = refl
acting_renumbered f Gone Kill Nowhere = refl
acting_renumbered f Gone Kill (At n) = refl
acting_renumbered f Gone NodeBoot Nowhere = refl
acting_renumbered f Gone NodeBoot (At n) = refl
acting_renumbered f Gone NodeShutdown Nowhere = refl
acting_renumbered f Gone NodeShutdown (At n) = refl

by_renumbered : (f : ℕ → ℕ) (s : State) (place : Place) (kind : Option Kind) → slices_by (renumbered_state f s) (renumbered_place f place) kind ≡ renumbered_slices f (slices_by s place kind)
unfolding slices_by
by_renumbered f s place None = refl
by_renumbered f s place (Some kind) = acting_renumbered f s kind place

idle_renumbered : (f : ℕ → ℕ) (s : State) → idle_slices (renumbered_state f s) ≡ renumbered_slices f (idle_slices s)
idle_renumbered f Init = refl
idle_renumbered f Ready = refl
idle_renumbered f (Running h) = refl
idle_renumbered f (Sleeping h) = refl
idle_renumbered f Gone = refl

module _ (p q : Instance) (v k : ℕ) (f : ℕ → ℕ) (state : state_of p v ≡ renumbered_state f (state_of q k)) (kinds : (place : Place) → kind_of p (vm v) (renumbered_place f place) ≡ kind_of q (vm k) place) (w : Weight) (weights : (what : What) → weight_of p v w what ≡ weight_of q k w what) where
  weigh_renumbered : (o : Option Slice) (g : Stage) (set : Nodes) → weigh p v w (renumbered_slice f o) g set ≡ weigh q k w o g (λ n. set (f n))
  weigh_renumbered None g set = refl
  weigh_renumbered (Some s) g set = rw (weights s.what) refl

  slices_renumbered : (c : Choice) → slices_of p v (renumbered_choice f c) ≡ renumbered_slices f (slices_of q k c)
  unfolding slices_of
  slices_renumbered Idle = rw state (idle_renumbered f (state_of q k))
  slices_renumbered (Act place start) = rw (state, kinds place) (by_renumbered f (state_of q k) place (kind_of q (vm k) place))

  pub held_renumbered : (set : Nodes) (c : Choice) (g : Stage) → held_by p v w set (renumbered_choice f c) g ≡ held_by q k w (λ n. set (f n)) c g
  unfolding held_by
  held_renumbered set c g =
      rw (slices_renumbered c, weigh_renumbered (slices_of q k c).source g set, weigh_renumbered (slices_of q k c).target g set, weigh_renumbered (slices_of q k c).image g set) refl

-- on no node at all nothing is held
weigh_nowhere : (p : Instance) (v : ℕ) (w : Weight) (o : Option Slice) (g : Stage) → weigh p v w o g (λ n. false) ≡ 0
weigh_nowhere p v w None g = refl
weigh_nowhere p v w (Some s) g = refl

pub held_nowhere : (p : Instance) (v : ℕ) (w : Weight) (t : ℕ) (c : Choice) → held_at p v w (λ n. false) t c ≡ 0
unfolding held_at held_by
held_nowhere p v w t c = rw (weigh_nowhere p v w (slices_of p v c).source, weigh_nowhere p v w (slices_of p v c).target, weigh_nowhere p v w (slices_of p v c).image) refl

-- ---- choices with other numbers

usable_renumbered : (f : ℕ → ℕ) (online : Bool) (c : Choice) (g : Stage) → usable_of online (renumbered_choice f c) g ≡ usable_of online c g
usable_renumbered f online Idle g = refl
usable_renumbered f true (Act place start) g = refl
usable_renumbered f false (Act place start) g = refl

powered_renumbered : (f : ℕ → ℕ) (online : Bool) (c : Choice) (g : Stage) → powered_of online (renumbered_choice f c) g ≡ powered_of online c g
powered_renumbered f online Idle g = refl
powered_renumbered f true (Act place start) g = refl
powered_renumbered f false (Act place start) g = refl

progress_renumbered : (f : ℕ → ℕ) (far : Progress) (c : Choice) (g : Stage) → progress_of far (renumbered_choice f c) g ≡ progress_of far c g
progress_renumbered f far Idle g = refl
progress_renumbered f Started (Act place start) g = refl
progress_renumbered f Unended (Act place start) g = refl
progress_renumbered f Acting (Act place start) g = refl

stage_renumbered : (f : ℕ → ℕ) (duration : ℕ) (c : Choice) (t : ℕ) → stage_of duration (renumbered_choice f c) t ≡ stage_of duration c t
stage_renumbered f duration Idle t = refl
stage_renumbered f duration (Act place start) t = refl

-- ---- a part in the whole

module _ (p q : Instance) (mine ours : ℕ → Bool) (keep : Form → Bool) (e : Embeds p q mine ours keep) where
  nodes_apart : (a b : ℕ) → (node_at p ours a == node_at p ours b) ≡ (a == b)
  nodes_apart = old_apart ours (node_count p)

  place_agrees : (place : Place) → is_place p (renumbered_place (node_at p ours) place) ≡ is_place q place
  place_agrees Nowhere = refl
  place_agrees (At n) =
      elim (cases_lt n.0 (node_count q)) [
        | inl low ↦ lt-ltb _ _ (old_in ours (node_count p) n.0 (subst (λ (m : ℕ). n.0 < m) e.nodes low)) ∙ sym (lt-ltb _ _ low)
        | inr past ↦
            let far : node_at p ours n.0 ≡ node_count p + n.0 = old_past ours (node_count p) n.0 (omega (arith, past, e.nodes)) in
            not_below _ _ (omega (arith, far)) ∙ sym (not_below _ _ past)
      ]
    where
      not_below : (a b : ℕ) → b ≤ a → nat_lt a b ≡ false
      not_below a b l = elim (cases_Bool (nat_lt a b)) [ inl low ↦ absurd (omega (arith, l, ltb-true a b low)) | inr none ↦ none ]

  module _ (k : ℕ) (l : k < machine_count q) where
    raised_agrees : is_raised p (vm_at p mine k) ≡ is_raised q k
    raised_agrees = λ j. list_any (λ r. not (e.demand k r l j == e.used k r l j)) (range_with_len 0 (length (sym e.resources j)))

    kind_agrees : (place : Place) → kind_of p (vm (vm_at p mine k)) (renumbered_place (node_at p ours) place) ≡ kind_of q (vm k) place
    unfolding kind_of
    kind_agrees place = same_kind (node_at p ours) nodes_apart _ _ (place_agrees place) _ _ (e.state k l) _ _ (e.wish k l) _ _ raised_agrees place

    pub idle_agrees : may_idle p (vm (vm_at p mine k)) ≡ may_idle q (vm k)
    unfolding may_idle
    idle_agrees = same_idle (node_at p ours) nodes_apart _ _ (e.state k l) _ _ (e.wish k l) _ _ raised_agrees

    kind_lasts : (o : Option Kind) → kind_duration p (vm (vm_at p mine k)) o ≡ kind_duration q (vm k) o
    unfolding kind_duration
    kind_lasts None = refl
    kind_lasts (Some kind) = e.duration k kind l

    lasts_same : (place : Place) → action_duration p (vm (vm_at p mine k)) (renumbered_place (node_at p ours) place) ≡ action_duration q (vm k) place
    unfolding action_duration
    lasts_same place = ap (kind_duration p (vm (vm_at p mine k))) (kind_agrees place) ∙ kind_lasts (kind_of q (vm k) place)

    choice_lasts : (c : Choice) → choice_duration p (vm (vm_at p mine k)) (renumbered_choice (node_at p ours) c) ≡ choice_duration q (vm k) c
    choice_lasts Idle = refl
    choice_lasts (Act place start) = lasts_same place

    pub end_agrees : (c : Choice) → end_of p (vm (vm_at p mine k)) (renumbered_choice (node_at p ours) c) ≡ end_of q (vm k) c
    unfolding end_of
    end_agrees Idle = refl
    end_agrees (Act place start) = ap (λ (d : ℕ). start + d) (lasts_same place)

    pub legal_agrees : (c : Choice) → is_legal p (vm (vm_at p mine k)) (renumbered_choice (node_at p ours) c) ≡ is_legal q (vm k) c
    unfolding is_legal
    legal_agrees Idle = idle_agrees
    legal_agrees (Act place start) = λ j. is_some (kind_agrees place j) && nat_le (end_agrees (Act place start) j) (sym e.horizon j)

    stage_agrees : (c : Choice) (t : ℕ) → stage_at p (vm (vm_at p mine k)) (renumbered_choice (node_at p ours) c) t ≡ stage_at q (vm k) c t
    unfolding stage_at
    stage_agrees c t = ap (λ (d : ℕ). stage_of d (renumbered_choice (node_at p ours) c) t) (choice_lasts c) ∙ stage_renumbered (node_at p ours) (choice_duration q (vm k) c) c t

    weight_agrees : (w : Weight) (what : What) → weight_of p (vm_at p mine k) w what ≡ weight_of q k w what
    weight_agrees (Amount r) Use = e.used k r l
    weight_agrees (Amount r) Demand = e.demand k r l
    weight_agrees (Amount r) Raise = λ j. e.demand k r l j - e.used k r l j
    weight_agrees (Amount r) OfImage = refl
    weight_agrees Presence Use = refl
    weight_agrees Presence Demand = refl
    weight_agrees Presence Raise = refl
    weight_agrees Presence OfImage = refl
    weight_agrees Image Use = refl
    weight_agrees Image Demand = refl
    weight_agrees Image Raise = refl
    weight_agrees Image OfImage = refl

    -- what a machine holds on a set is what it holds in the part on the same nodes
    pub held_agrees : (w : Weight) (set : Nodes) (t : ℕ) (c : Choice) → held_at p (vm_at p mine k) w set t (renumbered_choice (node_at p ours) c) ≡ held_at q k w (λ n. set (node_at p ours n)) t c
    unfolding held_at
    held_agrees w set t c =
        ap (held_by p (vm_at p mine k) w set (renumbered_choice (node_at p ours) c)) (stage_agrees c t)
        ∙ held_renumbered p q (vm_at p mine k) k (node_at p ours) (e.state k l) kind_agrees w (weight_agrees w) set c (stage_at q (vm k) c t)

    pub action_agrees : (far : Progress) (t : ℕ) (c : Choice) → action_at p (vm_at p mine k) far t (renumbered_choice (node_at p ours) c) ≡ action_at q k far t c
    unfolding action_at
    action_agrees far t c = ap (progress_of far (renumbered_choice (node_at p ours) c)) (stage_agrees c t) ∙ progress_renumbered (node_at p ours) far c (stage_at q (vm k) c t)

  module _ (m : ℕ) (l : m < node_count q) where
    node_kind_agrees : (place : Place) → kind_of p (node (node_at p ours m)) (renumbered_place (node_at p ours) place) ≡ kind_of q (node m) place
    unfolding kind_of
    node_kind_agrees place = node_kind_renumbered (node_at p ours) nodes_apart (is_online p.nodes (node_at p ours m)) (wanted_of p (node (node_at p ours m))) place ∙ ap₂ (λ (o : Bool) (w : Wish). node_kind o w place) (e.online m l) (e.node_wish m l)

    pub node_idle_agrees : may_idle p (node (node_at p ours m)) ≡ may_idle q (node m)
    unfolding may_idle
    node_idle_agrees = ap₂ may_node_idle (e.online m l) (e.node_wish m l)

    node_kind_lasts : (o : Option Kind) → kind_duration p (node (node_at p ours m)) o ≡ kind_duration q (node m) o
    unfolding kind_duration
    node_kind_lasts None = refl
    node_kind_lasts (Some kind) = e.node_duration m kind l

    node_lasts_same : (place : Place) → action_duration p (node (node_at p ours m)) (renumbered_place (node_at p ours) place) ≡ action_duration q (node m) place
    unfolding action_duration
    node_lasts_same place = ap (kind_duration p (node (node_at p ours m))) (node_kind_agrees place) ∙ node_kind_lasts (kind_of q (node m) place)

    node_choice_lasts : (c : Choice) → choice_duration p (node (node_at p ours m)) (renumbered_choice (node_at p ours) c) ≡ choice_duration q (node m) c
    node_choice_lasts Idle = refl
    node_choice_lasts (Act place start) = node_lasts_same place

    pub node_end_agrees : (c : Choice) → end_of p (node (node_at p ours m)) (renumbered_choice (node_at p ours) c) ≡ end_of q (node m) c
    unfolding end_of
    node_end_agrees Idle = refl
    node_end_agrees (Act place start) = ap (λ (d : ℕ). start + d) (node_lasts_same place)

    pub node_legal_agrees : (c : Choice) → is_legal p (node (node_at p ours m)) (renumbered_choice (node_at p ours) c) ≡ is_legal q (node m) c
    unfolding is_legal
    node_legal_agrees Idle = node_idle_agrees
    node_legal_agrees (Act place start) = λ j. is_some (node_kind_agrees place j) && nat_le (node_end_agrees (Act place start) j) (sym e.horizon j)

    node_stage_agrees : (c : Choice) (t : ℕ) → stage_at p (node (node_at p ours m)) (renumbered_choice (node_at p ours) c) t ≡ stage_at q (node m) c t
    unfolding stage_at
    node_stage_agrees c t = ap (λ (d : ℕ). stage_of d (renumbered_choice (node_at p ours) c) t) (node_choice_lasts c) ∙ stage_renumbered (node_at p ours) (choice_duration q (node m) c) c t

    pub usable_agrees : (t : ℕ) (c : Choice) → usable_at p (node_at p ours m) t (renumbered_choice (node_at p ours) c) ≡ usable_at q m t c
    unfolding usable_at
    usable_agrees t c =
        usable_renumbered (node_at p ours) (is_online p.nodes (node_at p ours m)) c (stage_at p (node (node_at p ours m)) (renumbered_choice (node_at p ours) c) t)
        ∙ ap₂ (λ (o : Bool) (g : Stage). usable_of o c g) (e.online m l) (node_stage_agrees c t)

    pub powered_agrees : (t : ℕ) (c : Choice) → powered_at p (node_at p ours m) t (renumbered_choice (node_at p ours) c) ≡ powered_at q m t c
    unfolding powered_at
    powered_agrees t c =
        powered_renumbered (node_at p ours) (is_online p.nodes (node_at p ours m)) c (stage_at p (node (node_at p ours m)) (renumbered_choice (node_at p ours) c) t)
        ∙ ap₂ (λ (o : Bool) (g : Stage). powered_of o c g) (e.online m l) (node_stage_agrees c t)
