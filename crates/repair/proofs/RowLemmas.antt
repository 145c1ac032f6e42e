-- The actions of machines, row by row of their table: what is so of each row is so of every action.
use Rattle.base.proofs.Public.{◌≡◌, ◌==◌, Bool, true, false, Option, Some, None, IsSome, if◌then◌else◌, refl, sym, subst, eqb-true, false≢true}
use Rattle.slices.specs.Prelude.{machine_kind}
use Rattle.catalogue.specs.declared.{targets.Wish.Wish}
use Rattle.cluster.specs.declared.{choices.Place.Place, choices.Place.TheVariants.At, choices.Place.TheVariants.Nowhere, ids.NodeId.NodeId, kinds.Kind.Kind, kinds.Kind.TheVariants.Allocate, kinds.Kind.TheVariants.Boot, kinds.Kind.TheVariants.Forge, kinds.Kind.TheVariants.Kill, kinds.Kind.TheVariants.Migrate, kinds.Kind.TheVariants.Resume, kinds.Kind.TheVariants.Shutdown, kinds.Kind.TheVariants.Suspend, states.State.State, states.State.TheVariants.Init}
use Rattle.cluster.specs.declared.states.State.TheVariants.{Ready, Running, Sleeping}
use Rattle.catalogue.specs.declared.targets.Target.TheVariants.{Running as ToRunning, Sleeping as ToSleeping, Ready as ToReady, Killed as ToKilled}
use Rattle.catalogue.specs.declared.targets.Wish.TheVariants.{To}

-- a claim on a state, what is wanted of it, a place and the kind of the action there, for each row
pub record OfRows (Claim : State → Wish → Place → Option Kind → Type 0) : Type 0 where
  pub forge : Claim Init (To ToReady) Nowhere (Some Forge)
  pub boot : (n : NodeId) → Claim Ready (To ToRunning) (At n) (Some Boot)
  pub kill_ready : Claim Ready (To ToKilled) Nowhere (Some Kill)
  pub migrate : (h n : NodeId) → Claim (Running h) (To ToRunning) (At n) (Some Migrate)
  pub allocate : (h : NodeId) → Claim (Running h) (To ToRunning) (At h) (Some Allocate)
  pub shutdown : (h : NodeId) → Claim (Running h) (To ToReady) Nowhere (Some Shutdown)
  pub suspend : (h : NodeId) → Claim (Running h) (To ToSleeping) (At h) (Some Suspend)
  pub kill_running : (h : NodeId) → Claim (Running h) (To ToKilled) Nowhere (Some Kill)
  pub resume : (h n : NodeId) → Claim (Sleeping h) (To ToRunning) (At n) (Some Resume)
  pub kill_sleeping : (h : NodeId) → Claim (Sleeping h) (To ToKilled) Nowhere (Some Kill)

abbrev none : Option Kind
none = None

pub no_kind : {X : Type 0} → IsSome none → X
no_kind h = absurd (false≢true h)

same_node : (a b : NodeId) → (a.0 == b.0) ≡ true → a ≡ b
same_node a b e = λ i. record { 0 = eqb-true a.0 b.0 e i }

module _ (Claim : State → Wish → Place → Option Kind → Type 0) (rows : OfRows Claim) where
  goes_on : (h n : NodeId) (here raised : Bool) → (n.0 == h.0) ≡ here → IsSome (if here then (if raised then Some Allocate else None) else Some Migrate) →
      Claim (Running h) (To ToRunning) (At n) (if here then (if raised then Some Allocate else None) else Some Migrate)
  goes_on h n true true e some = subst (λ (x : NodeId). Claim (Running h) (To ToRunning) (At x) (Some Allocate)) (sym (same_node n h e)) (rows.allocate h)
  goes_on h n true false e some = no_kind some
  goes_on h n false raised e some = rows.migrate h n

  sleeps : (h n : NodeId) (here : Bool) → (n.0 == h.0) ≡ here → IsSome (if here then Some Suspend else None) →
      Claim (Running h) (To ToSleeping) (At n) (if here then Some Suspend else None)
  sleeps h n true e some = subst (λ (x : NodeId). Claim (Running h) (To ToSleeping) (At x) (Some Suspend)) (sym (same_node n h e)) (rows.suspend h)
  sleeps h n false e some = no_kind some

  pub by_row : (s : State) (w : Wish) (raised : Bool) (place : Place) → IsSome (machine_kind s w raised place) → Claim s w place (machine_kind s w raised place)
  by_row Init (To ToReady) raised Nowhere some = rows.forge
  by_row Ready (To ToRunning) raised (At n) some = rows.boot n
  by_row Ready (To ToKilled) raised Nowhere some = rows.kill_ready
  by_row (Running h) (To ToRunning) raised (At n) some = goes_on h n (n.0 == h.0) raised refl some
  by_row (Running h) (To ToReady) raised Nowhere some = rows.shutdown h
  by_row (Running h) (To ToSleeping) raised (At n) some = sleeps h n (n.0 == h.0) refl some
  by_row (Running h) (To ToKilled) raised Nowhere some = rows.kill_running h
  by_row (Sleeping h) (To ToRunning) raised (At n) some = rows.resume h n
  by_row (Sleeping h) (To ToKilled) raised Nowhere some = rows.kill_sleeping h
  by_row s w raised place some = no_kind some
