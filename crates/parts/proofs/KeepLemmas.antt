-- A valid plan keeps each machine in its group: each fence that has it, or its root, holds at the horizon.
use Rattle.std.proofs.Common.{IsTrue, slice_get}
use Rattle.base.proofs.Public.{◌≡◌, ◌⊎◌, inl, inr, ℕ, ◌+◌, ◌<◌, ◌≤◌, Bool, true, false, not, ◌==◌, ◌||◌, List, length, Option, None, Some, is_some, IsSome, nat_le, nat_lt, if◌then◌else◌, refl, sym, ap, subst, ◌∙◌, and_from, and_parts, arith, cases_Bool, cases_lt, each_passes, eq-eqb, eqb-true, false≢true, find, le-leb, leb-true, list_any, lt-ltb, ltb-true, or_cases, or_right, range_with_len, slice_get_within, true≢false}
use Rattle.cluster.specs.declared.choices.Choice.{Choice}
use Rattle.cluster.specs.declared.choices.Choice.TheVariants.{Idle, Act}
use Rattle.cluster.specs.declared.choices.Place.{Place}
use Rattle.cluster.specs.declared.choices.Place.TheVariants.{Nowhere, At}
use Rattle.cluster.specs.declared.ids.Element.{Element}
use Rattle.cluster.specs.declared.ids.NodeId.{NodeId}
use Rattle.cluster.specs.declared.kinds.Kind.{Kind}
use Rattle.cluster.specs.declared.kinds.Kind.TheVariants.{Allocate, Migrate, Suspend}
use Rattle.cluster.specs.declared.sets.NodeSet.{NodeSet}
use Rattle.cluster.specs.declared.states.State.{State}
use Rattle.cluster.specs.declared.states.State.TheVariants.{Init, Ready, Running, Sleeping, Gone}
use Rattle.cluster.specs.States.{host_of}
use Rattle.catalogue.specs.Prelude.{continuous_at, has_node, Instance, is_member}
use Rattle.catalogue.specs.declared.constraint.Constraint.{Constraint}
use Rattle.catalogue.specs.declared.targets.Target.TheVariants.{Online as ToOnline, Offline as ToOffline, Running as ToRunning, Sleeping as ToSleeping, Ready as ToReady, Killed as ToKilled}
use Rattle.catalogue.specs.declared.targets.Wish.{Wish}
use Rattle.catalogue.specs.declared.targets.Wish.TheVariants.{Keep, To, Clash}
use Rattle.slices.specs.declared.rule.Rule.TheVariants.{Constraint as OfConstraint}
use Rattle.slices.specs.declared.slice.Slices.{Slices}
use Rattle.slices.specs.declared.slice.Weight.{Weight}
use Rattle.slices.specs.declared.slice.Weight.TheVariants.{Presence}
use Rattle.slices.specs.declared.stage.Stage.{Stage}
use Rattle.slices.specs.Actions.{action_duration, end_of, is_legal, is_raised, kind_of, machine_kind, wanted_state}
use Rattle.slices.specs.Elements.{is_place, machine_count, node_count, state_of, vm}
use Rattle.slices.specs.Ends.{snapshot_of}
use Rattle.slices.specs.Forms.{Form, Apart, Allowed, Together, Ordered, InTurn, Bounded, Powered, Settled, Outside, Within, OnHost, form_of}
use Rattle.slices.specs.Holds.{IsKept}
use Rattle.slices.specs.Plans.{Choices, IsPlan}
use Rattle.slices.specs.Rules.{IsValid}
use Rattle.slices.specs.Snapshots.{held_at, held_by, present_at, Snapshot, stage_at}
use Rattle.slices.specs.Stages.{Nodes, one, slices_by, slices_of, weigh}
use Rattle.slices.proofs.Public.{is_pointwise}
use Rattle.parts.specs.Groups.{in_group, is_inside, is_to_run, machine_group}
use Rattle.parts.specs.Laws.{KeepsGroups, Split}
use Rattle.parts.specs.Splits.{fences, is_fenced, is_free, is_rooted, is_running, roots}
use Rattle.parts.specs.Unions.{StaysIn}
use Rattle.parts.proofs.EmbedLemmas.{host_ours}
use Rattle.parts.proofs.FindLemmas.{finds, found, item_passes}
use Rattle.parts.proofs.SplitLemmas.{covered, group_in, whole}

-- ---- what brings a machine to a node

abbrev no_kind : Option Kind
no_kind = None

none_is_some : (X : Type 0) → is_some no_kind ≡ true → X
none_is_some X h = absurd (false≢true h)

-- it is wanted running, or is suspended on its host
abbrev Arrives : State → Wish → NodeId → Type 0
Arrives s wish n = (is_to_run wish ≡ true) ⊎ ((h : NodeId) × (host_of s ≡ Some h) × (n.0 ≡ h.0))

on_host : (h n : NodeId) (b : Bool) → (n.0 == h.0) ≡ b → IsSome (if b then Some Suspend else None) → n.0 ≡ h.0
on_host h n true e some = eqb-true n.0 h.0 e
on_host h n false e some = none_is_some _ some

arrives_as : (s : State) (wish : Wish) (raised : Bool) (n : NodeId) → IsSome (machine_kind s wish raised (At n)) → Arrives s wish n
arrives_as Init Keep raised n some = none_is_some _ some
arrives_as Init (To ToOnline) raised n some = none_is_some _ some
arrives_as Init (To ToOffline) raised n some = none_is_some _ some
arrives_as Init (To ToRunning) raised n some = inl refl
arrives_as Init (To ToSleeping) raised n some = none_is_some _ some
arrives_as Init (To ToReady) raised n some = none_is_some _ some
arrives_as Init (To ToKilled) raised n some = none_is_some _ some
arrives_as Init Clash raised n some = none_is_some _ some
arrives_as Ready Keep raised n some = none_is_some _ some
arrives_as Ready (To ToOnline) raised n some = none_is_some _ some
arrives_as Ready (To ToOffline) raised n some = none_is_some _ some
arrives_as Ready (To ToRunning) raised n some = inl refl
arrives_as Ready (To ToSleeping) raised n some = none_is_some _ some
arrives_as Ready (To ToReady) raised n some = none_is_some _ some
arrives_as Ready (To ToKilled) raised n some = none_is_some _ some
arrives_as Ready Clash raised n some = none_is_some _ some
arrives_as (Running h) Keep raised n some = none_is_some _ some
arrives_as (Running h) (To ToOnline) raised n some = none_is_some _ some
arrives_as (Running h) (To ToOffline) raised n some = none_is_some _ some
arrives_as (Running h) (To ToRunning) raised n some = inl refl
arrives_as (Running h) (To ToSleeping) raised n some = inr (h, refl, on_host h n (n.0 == h.0) refl some)
arrives_as (Running h) (To ToReady) raised n some = none_is_some _ some
arrives_as (Running h) (To ToKilled) raised n some = none_is_some _ some
arrives_as (Running h) Clash raised n some = none_is_some _ some
arrives_as (Sleeping h) Keep raised n some = none_is_some _ some
arrives_as (Sleeping h) (To ToOnline) raised n some = none_is_some _ some
arrives_as (Sleeping h) (To ToOffline) raised n some = none_is_some _ some
arrives_as (Sleeping h) (To ToRunning) raised n some = inl refl
arrives_as (Sleeping h) (To ToSleeping) raised n some = none_is_some _ some
arrives_as (Sleeping h) (To ToReady) raised n some = none_is_some _ some
arrives_as (Sleeping h) (To ToKilled) raised n some = none_is_some _ some
arrives_as (Sleeping h) Clash raised n some = none_is_some _ some
arrives_as Gone Keep raised n some = none_is_some _ some
arrives_as Gone (To ToOnline) raised n some = none_is_some _ some
arrives_as Gone (To ToOffline) raised n some = none_is_some _ some
arrives_as Gone (To ToRunning) raised n some = inl refl
arrives_as Gone (To ToSleeping) raised n some = none_is_some _ some
arrives_as Gone (To ToReady) raised n some = none_is_some _ some
arrives_as Gone (To ToKilled) raised n some = none_is_some _ some
arrives_as Gone Clash raised n some = none_is_some _ some

-- ---- once its action has started, the machine is there

abbrev weighs : Instance → ℕ → Weight → Slices → Stage → Nodes → ℕ
weighs p v w x g set = weigh p v w x.source g set + weigh p v w x.target g set + weigh p v w x.image g set

module _ (p : Instance) (v : ℕ) (n : NodeId) (g : Stage) (begun : g.started ≡ true) where
  self : (n.0 == n.0) ≡ true
  self = eq-eqb n.0 n.0 refl

  moved : (h : NodeId) (b raised : Bool) → (n.0 == h.0) ≡ b → IsSome (if b then (if raised then Some Allocate else None) else Some Migrate) →
      nat_lt 0 (weighs p v Presence (slices_by (Running h) (At n) (if b then (if raised then Some Allocate else None) else Some Migrate)) g (one n.0)) ≡ true
  unfolding slices_by
  moved h true true e some =
      let same : n.0 ≡ h.0 = eqb-true n.0 h.0 e in
      let there : (h.0 == n.0) ≡ true = eq-eqb h.0 n.0 (sym same) in
      rw (there) (lt-ltb 0 _ (omega arith))
  moved h true false e some = none_is_some _ some
  moved h false raised e some = rw (self, begun) (lt-ltb 0 _ (omega arith))

  arrives : (s : State) (raised : Bool) → IsSome (machine_kind s (To ToRunning) raised (At n)) → nat_lt 0 (weighs p v Presence (slices_by s (At n) (machine_kind s (To ToRunning) raised (At n))) g (one n.0)) ≡ true
  unfolding slices_by
  arrives Init raised some = none_is_some _ some
  arrives Ready raised some = rw (self, begun) refl
  arrives (Running h) raised some = moved h (n.0 == h.0) raised refl some
  arrives (Sleeping h) raised some = rw (self, begun) (lt-ltb 0 _ (omega arith))
  arrives Gone raised some = none_is_some _ some

started_then : (p : Instance) (e : Element) (place : Place) (start : ℕ) → start ≤ p.horizon → (stage_at p e (Act place start) p.horizon).started ≡ true
unfolding stage_at
started_then p e place start l = le-leb start p.horizon l

starts_in_time : (p : Instance) (e : Element) (place : Place) (start : ℕ) → IsTrue (is_legal p e (Act place start)) → start ≤ p.horizon
unfolding is_legal end_of
starts_in_time p e place start legal = let ends : start + action_duration p e place ≤ p.horizon = leb-true (start + action_duration p e place) p.horizon (and_parts (is_some (kind_of p e place)) (nat_le (start + action_duration p e place) p.horizon) legal).1 in omega (arith, ends)

-- a kind that is there only at a place of the instance
placed : (b : Bool) (o : Option Kind) → IsSome (if b then o else None) → (b ≡ true) × IsSome o
placed true o h = (refl, h)
placed false o h = none_is_some _ h

to_run : (w : Wish) → is_to_run w ≡ true → w ≡ To ToRunning
to_run Keep e = absurd (false≢true e)
to_run (To ToOnline) e = absurd (false≢true e)
to_run (To ToOffline) e = absurd (false≢true e)
to_run (To ToRunning) e = refl
to_run (To ToSleeping) e = absurd (false≢true e)
to_run (To ToReady) e = absurd (false≢true e)
to_run (To ToKilled) e = absurd (false≢true e)
to_run Clash e = absurd (false≢true e)

-- ---- under a valid plan

module _ (p : Instance) (groups : List NodeSet) (split : Split p groups) (plan : Choices) (legal_all : IsPlan p plan) (valid : IsValid p plan) (v : ℕ) (listed : v < machine_count p) (n : NodeId) (start : ℕ) (acts_so : plan (vm v) ≡ Act (At n) start) where
  legal : IsTrue (is_legal p (vm v) (Act (At n) start))
  legal = subst (λ (c : Choice). IsTrue (is_legal p (vm v) c)) acts_so (legal_all (vm v) listed)

  kind : (is_place p (At n) ≡ true) × IsSome (machine_kind (state_of p v) (wanted_state p v) (is_raised p v) (At n))
  unfolding kind_of is_legal
  kind = placed (is_place p (At n)) (machine_kind (state_of p v) (wanted_state p v) (is_raised p v) (At n)) (and_parts _ _ legal).0

  node_there : n.0 < node_count p
  node_there = ltb-true n.0 (node_count p) kind.0

  own : (machine_group p groups v == machine_group p groups v) ≡ true
  own = eq-eqb (machine_group p groups v) (machine_group p groups v) refl

  -- the nodes of a host's group
  at_host : (h : NodeId) → host_of (state_of p v) ≡ Some h → n.0 ≡ h.0 → IsTrue (in_group groups (machine_group p groups v) n.0)
  at_host h host same = subst (λ (x : ℕ). IsTrue (in_group groups (machine_group p groups v) x)) (sym same) (host_ours p groups (machine_group p groups v) split.sound split.are_groups (covered p groups split) v listed own h host)

  -- where there is one group, each node is in it
  one_alone : nat_lt 1 (length groups) ≡ false → IsTrue (in_group groups (machine_group p groups v) n.0)
  one_alone few =
      let most : length groups ≤ 1 = elim (cases_lt 1 (length groups)) [ inl more ↦ absurd (true≢false (sym (lt-ltb 1 (length groups) more) ∙ few)) | inr at_most ↦ at_most ] in
      let g = covered p groups split n.0 node_there in
      let in_g = found (λ j. in_group groups j n.0) 0 (length groups) g.0 g.1 in
      let same : g.0 ≡ machine_group p groups v = omega (arith, most, in_g.high, group_in p groups split v) in
      subst (λ (j : ℕ). IsTrue (in_group groups j n.0)) same in_g.passes

  module _ (wants : wanted_state p v ≡ To ToRunning) where
    there_at_last : IsTrue (present_at p v (one n.0) p.horizon (plan (vm v)))
    unfolding held_at held_by slices_of kind_of
    there_at_last =
        let at : nat_lt 0 (weighs p v Presence (slices_by (state_of p v) (At n) (machine_kind (state_of p v) (To ToRunning) (is_raised p v) (At n))) (stage_at p (vm v) (Act (At n) start) p.horizon) (one n.0)) ≡ true =
        arrives p v n (stage_at p (vm v) (Act (At n) start) p.horizon) (started_then p (vm v) (At n) start (starts_in_time p (vm v) (At n) start legal)) (state_of p v) (is_raised p v) (subst (λ (w : Wish). IsSome (machine_kind (state_of p v) w (is_raised p v) (At n))) wants kind.1)
        in
        rw (acts_so, kind.0, wants) at

    -- each constraint holds at the horizon
    kept_last : (c : ℕ) (x : Constraint) → slice_get p.constraints c ≡ Some x → IsKept p (snapshot_of p plan p.horizon) (form_of x)
    unfolding IsValid
    kept_last c x e =
        subst (λ (s : Snapshot). IsKept p s (form_of x)) (is_pointwise p plan p.horizon)
        (valid p.horizon (omega arith) (OfConstraint c) (slice_get_within p.constraints c x e) (or_right (continuous_at (slice_get p.constraints c)) (p.horizon == p.horizon) (eq-eqb p.horizon p.horizon refl)) x e)

    by_fence : (f : Form) → fences p groups v (machine_group p groups v) f ≡ true → IsKept p (snapshot_of p plan p.horizon) f → IsTrue (in_group groups (machine_group p groups v) n.0)
    by_fence (Allowed vs (Within ns)) e kept =
        let sides = and_parts (is_member vs v) (is_inside p groups (machine_group p groups v) ns) e in
        let has : has_node ns n.0 ≡ true =
        elim (cases_Bool (has_node ns n.0)) [
          | inl inside ↦ inside
          | inr out ↦ absurd (false≢true (sym (kept v n.0 listed node_there (sides.0, out)) ∙ there_at_last))
        ] in
        let test : (not (has_node ns n.0) || in_group groups (machine_group p groups v) n.0) ≡ true = each_passes (λ m. not (has_node ns m) || in_group groups (machine_group p groups v) m) 0 (node_count p) n.0 sides.1 (omega arith) (omega (arith, node_there)) in
        either (has_node ns n.0) (in_group groups (machine_group p groups v) n.0) has test
      where
        either : (a b : Bool) → a ≡ true → (not a || b) ≡ true → b ≡ true
        either true b e h = h
        either false b e h = absurd (false≢true e)
    by_fence (Allowed vs (Outside ns)) e kept = absurd (false≢true e)
    by_fence (Allowed vs OnHost) e kept = absurd (false≢true e)
    by_fence (Apart separation) e kept = absurd (false≢true e)
    by_fence (Together vs choices) e kept = absurd (false≢true e)
    by_fence (Ordered before after) e kept = absurd (false≢true e)
    by_fence (InTurn vs) e kept = absurd (false≢true e)
    by_fence (Bounded weight ns amount) e kept = absurd (false≢true e)
    by_fence (Powered ns amount) e kept = absurd (false≢true e)
    by_fence Settled e kept = absurd (false≢true e)

    by_root : (h : NodeId) → state_of p v ≡ Running h → (f : Form) → roots v f ≡ true → IsKept p (snapshot_of p plan p.horizon) f → IsTrue (in_group groups (machine_group p groups v) n.0)
    by_root h runs (Allowed vs OnHost) e kept =
        elim (cases_Bool (h.0 == n.0)) [
          | inl same ↦ at_host h (ap host_of runs) (sym (eqb-true h.0 n.0 same))
          | inr away ↦ absurd (false≢true (sym (kept v n.0 listed node_there (e, rw (runs, away) refl)) ∙ there_at_last))
        ]
    by_root h runs (Allowed vs (Outside ns)) e kept = absurd (false≢true e)
    by_root h runs (Allowed vs (Within ns)) e kept = absurd (false≢true e)
    by_root h runs (Apart separation) e kept = absurd (false≢true e)
    by_root h runs (Together vs choices) e kept = absurd (false≢true e)
    by_root h runs (Ordered before after) e kept = absurd (false≢true e)
    by_root h runs (InTurn vs) e kept = absurd (false≢true e)
    by_root h runs (Bounded weight ns amount) e kept = absurd (false≢true e)
    by_root h runs (Powered ns amount) e kept = absurd (false≢true e)
    by_root h runs Settled e kept = absurd (false≢true e)

    fenced : is_fenced p groups v ≡ true → IsTrue (in_group groups (machine_group p groups v) n.0)
    fenced e = let w = item_passes (λ c. fences p groups v (machine_group p groups v) (form_of c)) p.constraints e in by_fence (form_of w.1) w.3 (kept_last w.0 w.1 w.2)

    rooted : is_rooted p v ≡ true → IsTrue (in_group groups (machine_group p groups v) n.0)
    rooted e =
        let sides = and_parts (is_running (state_of p v)) (list_any (λ c. roots v (form_of c)) p.constraints) e in
        let w = item_passes (λ c. roots v (form_of c)) p.constraints sides.1 in
        of (state_of p v) refl sides.0 w.0 w.1 w.2 w.3
      where
        of : (s : State) → state_of p v ≡ s → is_running s ≡ true → (c : ℕ) (x : Constraint) → slice_get p.constraints c ≡ Some x → roots v (form_of x) ≡ true → IsTrue (in_group groups (machine_group p groups v) n.0)
        of Init e runs c x at roots = absurd (false≢true runs)
        of Ready e runs c x at roots = absurd (false≢true runs)
        of (Running h) e runs c x at roots = by_root h e (form_of x) roots (kept_last c x at)
        of (Sleeping h) e runs c x at roots = absurd (false≢true runs)
        of Gone e runs c x at roots = absurd (false≢true runs)

    bound : nat_lt 1 (length groups) ≡ true → IsTrue (in_group groups (machine_group p groups v) n.0)
    bound many =
        elim (cases_Bool (is_fenced p groups v || is_rooted p v)) [
          | inl keeps ↦ elim (or_cases (is_fenced p groups v) (is_rooted p v) keeps) [ inl e ↦ fenced e | inr e ↦ rooted e ]
          | inr none ↦
              let free : is_free p groups v ≡ true = and_from (is_to_run (wanted_state p v)) _ (ap is_to_run wants) (ap not none) in
              let w = finds (is_free p groups) 0 (machine_count p) v (record { passes = free; low = omega arith; high = omega (arith, listed) }) in
              let no_free : (if nat_lt 1 (length groups) then find (is_free p groups) (range_with_len 0 (machine_count p)) else None) ≡ None = (whole p groups split).free in
              let found_none : find (is_free p groups) (range_with_len 0 (machine_count p)) ≡ None = rw many at no_free in
              absurd (clash w.0 (sym w.1 ∙ found_none))
        ]
      where
        clash : (j : ℕ) → Some j ≡ None → ⊥
        clash j e = cc e

  stays_at : IsTrue (in_group groups (machine_group p groups v) n.0)
  stays_at =
      elim (arrives_as (state_of p v) (wanted_state p v) (is_raised p v) n kind.1) [
        | inr w ↦ at_host w.0 w.1 w.2
        | inl runs ↦ elim (cases_Bool (nat_lt 1 (length groups))) [
          | inl many ↦ bound (to_run (wanted_state p v) runs) many
          | inr few ↦ one_alone few
        ]
      ]

pub keeps_groups : KeepsGroups
keeps_groups p groups split plan legal valid v l = by (plan (vm v)) refl
  where
    by : (c : Choice) → plan (vm v) ≡ c → StaysIn groups (machine_group p groups v) c
    by Idle e = tt
    by (Act Nowhere start) e = tt
    by (Act (At n) start) e = stays_at p groups split plan legal valid v l n start e
