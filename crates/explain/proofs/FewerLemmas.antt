-- Of two lists of constraints of one cluster that say the same of demand, capacity and wishes: choices are legal, cost the same and are
-- where they are under both. What keeps many constraints keeps those among them.
use Rattle.base.proofs.Public.{◌≡◌, ℕ, ◌+◌, ◌-◌, ◌==◌, ◌||◌, Bool, max, not, nat_le, nat_lt, ◌&&◌, List, length, Option, Some, None, IsTrue, refl, sym, ap, ap₂, subst, fold, is_some, list_any, range_with_len, slice_get, sum_to-same, unwrap_or, if◌then◌else◌, ForSome}
use Rattle.catalogue.specs.Prelude.{capacity_of, continuous_at, demand_of, is_online, limit_of, limit_with, machine_wish_with, node_wish_with, preserved_of, preserved_with, use_of, wanted_machine, wanted_node, wanted_of, written_of}
use Rattle.catalogue.specs.declared.constraint.Constraint.{Constraint}
use Rattle.catalogue.specs.declared.targets.Wish.TheVariants.{Keep}
use Rattle.cluster.specs.declared.{choices.Choice.Choice, choices.Choice.TheVariants.Act, choices.Choice.TheVariants.Idle, choices.Place.Place, choices.Place.TheVariants.At, choices.Place.TheVariants.Nowhere, ids.Element.Element, ids.Element.TheVariants.Node as TheNode, ids.Element.TheVariants.Vm, kinds.Kind.Kind}
use Rattle.slices.specs.Prelude.{action_duration, Allowed, Apart, Bounded, Choices, cost_of, duration_of, end_of, end_wish, Form, form_of, held_by, InRange, Instance, InTurn, is_legal, is_place, is_raised, IsKept, IsPlan, IsValid, Keeps, kind_duration, kind_of, machine_count, machine_kind, may_idle, may_machine_idle, node, node_count, node_kind, may_node_idle, Nodes, Ordered, powered_of, Powered, progress_of, Settled, slices_of, slices_by, Snapshot, snapshot, snapshot_at, stage_at, stages_at, state_of, Together, usable_of, vm, weigh, weight_of}
use Rattle.slices.specs.declared.{rule.Rule.Rule, rule.Rule.TheVariants.Constraint as OfConstraint, rule.Rule.TheVariants.Load, rule.Rule.TheVariants.Usable, slice.Slice.Slice, slice.Weight.TheVariants.Amount, slice.Weight.TheVariants.Image, slice.Weight.TheVariants.Presence, slice.Weight.Weight, slice.What.TheVariants.Demand, slice.What.TheVariants.Raise, slice.What.TheVariants.Use, slice.What.What, stage.Stage.Stage}
use Rattle.slices.specs.declared.slice.What.TheVariants.{Image as OfImage}
use Rattle.explain.proofs.PickLemmas.{AreAmong}

-- the problem with other constraints
abbrev pub ruled : Instance → List Constraint → Instance
ruled p constraints = record p { constraints = constraints }

-- both say the same of demand, capacity and wishes
pub record SaySame (few many : List Constraint) : Type 0 where
  pub preserved : (v r : ℕ) → fold (preserved_with v r) 0 few ≡ fold (preserved_with v r) 0 many
  pub limit : (n r w : ℕ) → fold (limit_with n r w) None few ≡ fold (limit_with n r w) None many
  pub machine_wish : (v : ℕ) → fold (machine_wish_with v) Keep few ≡ fold (machine_wish_with v) Keep many
  pub node_wish : (n : ℕ) → fold (node_wish_with n) Keep few ≡ fold (node_wish_with n) Keep many

module _ (p : Instance) (few many : List Constraint) (same : SaySame few many) where
  -- ---- demand, capacity, wishes

  same_demand : (v r : ℕ) → demand_of (ruled p few) v r ≡ demand_of (ruled p many) v r
  unfolding demand_of preserved_of
  same_demand v r = ap (max (use_of p.machines v r)) (same.preserved v r)

  same_capacity : (n r : ℕ) → capacity_of (ruled p few) n r ≡ capacity_of (ruled p many) n r
  unfolding capacity_of limit_of
  same_capacity n r = ap (λ (l : Option ℕ). unwrap_or l (written_of p.nodes n r)) (same.limit n r (written_of p.nodes n r))

  same_wanted : (e : Element) → wanted_of (ruled p few) e ≡ wanted_of (ruled p many) e
  unfolding wanted_machine wanted_node
  same_wanted (Vm v) = same.machine_wish v.0
  same_wanted (TheNode n) = same.node_wish n.0

  same_raised : (v : ℕ) → is_raised (ruled p few) v ≡ is_raised (ruled p many) v
  same_raised v = λ i. list_any (λ r. not (same_demand v r i == use_of p.machines v r)) (range_with_len 0 (length p.resources))

  -- ---- choices

  same_place : (place : Place) → is_place (ruled p few) place ≡ is_place (ruled p many) place
  same_place Nowhere = refl
  same_place (At n) = refl

  same_kind : (e : Element) (place : Place) → kind_of (ruled p few) e place ≡ kind_of (ruled p many) e place
  unfolding kind_of wanted_node
  same_kind (Vm v) place = λ i.
      if same_place place i then machine_kind (state_of p v.0) (end_wish (state_of p v.0) (same_wanted (Vm v) i)) (same_raised v.0 i) place else None
  same_kind (TheNode n) place = λ i. node_kind (is_online p.nodes n.0) (same.node_wish n.0 i) place

  same_idle : (e : Element) → may_idle (ruled p few) e ≡ may_idle (ruled p many) e
  unfolding may_idle wanted_node
  same_idle (Vm v) = λ i. may_machine_idle (state_of p v.0) (end_wish (state_of p v.0) (same_wanted (Vm v) i)) (same_raised v.0 i)
  same_idle (TheNode n) = λ i. may_node_idle (is_online p.nodes n.0) (same.node_wish n.0 i)

  same_lasting : (e : Element) (kind : Kind) → duration_of (ruled p few) e kind ≡ duration_of (ruled p many) e kind
  unfolding duration_of
  same_lasting (Vm v) kind = refl
  same_lasting (TheNode n) kind = refl

  of_kind : (e : Element) (kind : Option Kind) → kind_duration (ruled p few) e kind ≡ kind_duration (ruled p many) e kind
  unfolding kind_duration
  of_kind e None = refl
  of_kind e (Some kind) = same_lasting e kind

  same_duration : (e : Element) (place : Place) → action_duration (ruled p few) e place ≡ action_duration (ruled p many) e place
  unfolding action_duration
  same_duration e place = rw (same_kind e place) (of_kind e (kind_of (ruled p many) e place))

  same_end : (e : Element) (c : Choice) → end_of (ruled p few) e c ≡ end_of (ruled p many) e c
  unfolding end_of
  same_end e Idle = refl
  same_end e (Act place start) = ap (λ (d : ℕ). start + d) (same_duration e place)

  same_legal : (e : Element) (c : Choice) → is_legal (ruled p few) e c ≡ is_legal (ruled p many) e c
  unfolding is_legal
  same_legal e Idle = same_idle e
  same_legal e (Act place start) = λ i. is_some (same_kind e place i) && nat_le (same_end e (Act place start) i) p.horizon

  pub plan_of_few : (plan : Choices) → IsPlan (ruled p many) plan → IsPlan (ruled p few) plan
  plan_of_few plan is e in_it = subst IsTrue (sym (same_legal e (plan e))) (is e in_it)

  pub same_cost : (plan : Choices) → cost_of (ruled p few) plan ≡ cost_of (ruled p many) plan
  same_cost plan = ap₂ (λ (a : ℕ) (b : ℕ). a + b)
      (sum_to-same (machine_count p) _ _ (λ v l. same_end (vm v) (plan (vm v))))
      (sum_to-same (node_count p) _ _ (λ n l. same_end (node n) (plan (node n))))

  -- ---- what is where

  same_stage : (e : Element) (c : Choice) (t : ℕ) → stage_at (ruled p few) e c t ≡ stage_at (ruled p many) e c t
  unfolding stage_at
  same_stage e Idle t = refl
  same_stage e (Act place start) t = rw (same_duration e place) refl

  same_stages : (plan : Choices) (t : ℕ) (e : Element) → stages_at (ruled p few) plan t e ≡ stages_at (ruled p many) plan t e
  unfolding stages_at
  same_stages plan t e = same_stage e (plan e) t

  same_weight : (v : ℕ) (w : Weight) (what : What) → weight_of (ruled p few) v w what ≡ weight_of (ruled p many) v w what
  same_weight v (Amount r) Use = refl
  same_weight v (Amount r) Demand = same_demand v r
  same_weight v (Amount r) Raise = ap (λ (d : ℕ). d - use_of p.machines v r) (same_demand v r)
  same_weight v (Amount r) OfImage = refl
  same_weight v Presence Use = refl
  same_weight v Presence Demand = refl
  same_weight v Presence Raise = refl
  same_weight v Presence OfImage = refl
  same_weight v Image Use = refl
  same_weight v Image Demand = refl
  same_weight v Image Raise = refl
  same_weight v Image OfImage = refl

  same_weigh : (v : ℕ) (w : Weight) (o : Option Slice) (g : Stage) (set : Nodes) → weigh (ruled p few) v w o g set ≡ weigh (ruled p many) v w o g set
  same_weigh v w None g set = refl
  same_weigh v w (Some s) g set = rw (same_weight v w s.what) refl

  same_slices : (v : ℕ) (c : Choice) → slices_of (ruled p few) v c ≡ slices_of (ruled p many) v c
  unfolding slices_of
  same_slices v Idle = refl
  same_slices v (Act place start) = ap (slices_by (state_of p v) place) (same_kind (vm v) place)

  same_held : (v : ℕ) (w : Weight) (set : Nodes) (c : Choice) (g : Stage) → held_by (ruled p few) v w set c g ≡ held_by (ruled p many) v w set c g
  unfolding held_by
  same_held v w set c g =
      rw (same_slices v c, same_weigh v w (slices_of (ruled p many) v c).source g set, same_weigh v w (slices_of (ruled p many) v c).target g set, same_weigh v w (slices_of (ruled p many) v c).image g set) refl

  held_then : (plan : Choices) (t : ℕ) (v : ℕ) (w : Weight) (set : Nodes) → held_by (ruled p few) v w set (plan (vm v)) (stages_at (ruled p few) plan t (vm v)) ≡ held_by (ruled p many) v w set (plan (vm v)) (stages_at (ruled p many) plan t (vm v))
  held_then plan t v w set = rw (same_stages plan t (vm v)) (same_held v w set (plan (vm v)) (stages_at (ruled p many) plan t (vm v)))

  same_snapshot : (plan : Choices) (t : ℕ) → snapshot_at (ruled p few) plan t ≡ snapshot_at (ruled p many) plan t
  unfolding snapshot
  same_snapshot plan t = λ i. record {
    held = λ v w set. held_then plan t v w set i;
    present = λ v set. nat_lt 0 (held_then plan t v Presence set i);
    usable = λ n. usable_of (is_online p.nodes n) (plan (node n)) (same_stages plan t (node n) i);
    powered = λ n. powered_of (is_online p.nodes n) (plan (node n)) (same_stages plan t (node n) i);
    action = λ v far. progress_of far (plan (vm v)) (same_stages plan t (vm v) i);
  }

  -- ---- rules

  same_form : (s : Snapshot) (f : Form) → IsKept (ruled p many) s f → IsKept (ruled p few) s f
  same_form s (Apart separation) h = h
  same_form s (Allowed vs places) h = h
  same_form s (Together vs groups) h = h
  same_form s (Ordered before after) h = h
  same_form s (InTurn vs) h = h
  same_form s (Bounded weight ns amount) h = h
  same_form s (Powered ns amount) h = h
  same_form s Settled h = h

  holds : (s : Snapshot) (o : Option Constraint) → ForSome o (λ c. IsKept (ruled p many) s (form_of c)) → ForSome o (λ c. IsKept (ruled p few) s (form_of c))
  holds s o h = λ c is. same_form s (form_of c) (h c is)

  kept : (s : Snapshot) (last : Bool) (o : Option Constraint) (o' : Option Constraint) → o ≡ o' → (IsTrue (continuous_at o || last) → ForSome o (λ c. IsKept (ruled p many) s (form_of c))) →
      IsTrue (continuous_at o' || last) → ForSome o' (λ c. IsKept (ruled p few) s (form_of c))
  kept s last o o' is h applies = holds s o' (subst (λ (x : Option Constraint). IsTrue (continuous_at x || last) → ForSome x (λ c. IsKept (ruled p many) s (form_of c))) is h applies)

  keeps : AreAmong few many → (s : Snapshot) (last : Bool) → ((r : Rule) → InRange (ruled p many) r → Keeps (ruled p many) s last r) → (r : Rule) → InRange (ruled p few) r → Keeps (ruled p few) s last r
  keeps among s last all (Load n r) in_range = rw (same_capacity n.0 r) (all (Load n r) in_range)
  keeps among s last all (Usable v n) in_range = all (Usable v n) in_range
  keeps among s last all (OfConstraint c) in_range =
      let at = among.place c in_range in
      kept s last (slice_get many at.0) (slice_get few c) at.2 (all (OfConstraint at.0) at.1)

  pub valid_of_few : AreAmong few many → (plan : Choices) → IsValid (ruled p many) plan → IsValid (ruled p few) plan
  unfolding IsValid
  valid_of_few among plan valid t in_time = rw (same_snapshot plan t) (keeps among (snapshot_at (ruled p many) plan t) (t == p.horizon) (valid t in_time))
