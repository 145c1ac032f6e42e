-- The problem that is left, beside the old one: what is the same of all elements, and of those that have not ended.
use Rattle.base.proofs.Public.{◌≡◌, ℕ, suc, false, not, ◌==◌, List, [], ◌∷◌, length, Option, Some, None, is_some, refl, sym, ap, ◌∙◌, false≢true, if◌then◌else◌, list_any, option_map, range_with_len, slice_get, slice_index_or, unwrap_or}
use Rattle.std.proofs.lemmas.Iterator.Adapters.{option_map_id}
use Rattle.slices.specs.Prelude.{action_duration, capacity_of, Choices, demand_of, duration_of, end_wish, held_by, Instance, is_place, is_raised, kind_duration, kind_number, kind_of, limit_of, machine_count, machine_kind, machine_own, node, node_count, node_own, Nodes, preserved_of, slices_of, stage_at, state_in, vm, wanted_machine, wanted_node, wanted_of, weigh, weight_of}
use Rattle.cluster.specs.declared.{choices.Choice.Choice, choices.Choice.TheVariants.Act, choices.Choice.TheVariants.Idle, choices.Place.Place, choices.Place.TheVariants.At, choices.Place.TheVariants.Nowhere, ids.Element.Element, ids.Element.TheVariants.Node as TheNode, ids.Element.TheVariants.Vm, kinds.Kind.Kind, machines.Machine.Machine}
use Rattle.slices.specs.declared.{slice.Slice.Slice, slice.Weight.TheVariants.Amount, slice.Weight.TheVariants.Image, slice.Weight.TheVariants.Presence, slice.Weight.Weight, slice.What.TheVariants.Demand, slice.What.TheVariants.Raise, slice.What.TheVariants.Use, slice.What.What, stage.Stage.Stage}
use Rattle.slices.specs.Actions.{value_of}
use Rattle.catalogue.specs.Values.{amount_of, written_amount}
use Rattle.slices.specs.declared.slice.What.TheVariants.{Image as OfImage}
use Rattle.cluster.specs.declared.nodes.Node.{Node}
use Rattle.executor.specs.Phases.{is_ended, Phases}
use Rattle.repair.specs.Rest.{done_choices, IsRest, machine_after, node_after}

same_length : {A : Type 0} (f : ℕ → A → A) (xs ys : List A) → ((i : ℕ) → slice_get ys i ≡ option_map (f i) (slice_get xs i)) → length ys ≡ length xs
same_length f [] [] h = refl
same_length f [] (y ∷ ys) h = absurd (false≢true (ap is_some (sym (h 0))))
same_length f (x ∷ xs) [] h = absurd (false≢true (ap is_some (h 0)))
same_length f (x ∷ xs) (y ∷ ys) h = ap suc (same_length (λ i. f (suc i)) xs ys (λ i. h (suc i)))

-- a node has the capacity that is written for it, whether it has changed or not
kept_written : (c : Choice) (r : ℕ) (o : Option Node) → written_amount (option_map (node_after c) o) r ≡ written_amount o r
kept_written c r None = refl
kept_written Idle r (Some x) = refl
kept_written (Act place start) r (Some x) = refl

module _ (p : Instance) (plan : Choices) (phases : Phases) (q : Instance) (rest : IsRest p plan phases q) where
  -- ---- of all elements

  pub machines_as_many : machine_count q ≡ machine_count p
  machines_as_many = same_length (λ v. machine_after p v (done_choices plan phases (vm v))) p.machines q.machines rest.machines

  pub nodes_as_many : node_count q ≡ node_count p
  nodes_as_many = same_length (λ n. node_after (done_choices plan phases (node n))) p.nodes q.nodes rest.nodes

  pub same_preserved : (v r : ℕ) → preserved_of q v r ≡ preserved_of p v r
  unfolding preserved_of
  same_preserved v r = rw rest.constraints refl

  pub same_wanted : (e : Element) → wanted_of q e ≡ wanted_of p e
  unfolding wanted_machine wanted_node
  same_wanted (Vm v) = rw rest.constraints refl
  same_wanted (TheNode n) = rw rest.constraints refl

  pub same_capacity : (n r : ℕ) → capacity_of q n r ≡ capacity_of p n r
  unfolding capacity_of limit_of
  same_capacity n r = rw (rest.constraints, rest.nodes n, kept_written (done_choices plan phases (node n)) r (slice_get p.nodes n)) refl

  -- ---- of those that have not ended

  pub kept_machine : (v : ℕ) → is_ended (phases (vm v)) ≡ false → slice_get q.machines v ≡ slice_get p.machines v
  kept_machine v h =
      rest.machines v
      ∙ ap (λ (g : Machine → Machine). option_map g (slice_get p.machines v)) (λ i m. machine_after p v (if h i then plan (vm v) else Idle) m)
      ∙ option_map_id _

  pub kept_node : (n : ℕ) → is_ended (phases (node n)) ≡ false → slice_get q.nodes n ≡ slice_get p.nodes n
  kept_node n h =
      rest.nodes n
      ∙ ap (λ (g : Node → Node). option_map g (slice_get p.nodes n)) (λ i x. node_after (if h i then plan (node n) else Idle) x)
      ∙ option_map_id _

  kept_demand : (v r : ℕ) → is_ended (phases (vm v)) ≡ false → demand_of q v r ≡ demand_of p v r
  unfolding demand_of
  kept_demand v r h = rw (kept_machine v h, same_preserved v r) refl

  same_place : (place : Place) → is_place q place ≡ is_place p place
  same_place Nowhere = refl
  same_place (At n) = rw nodes_as_many refl

  pub kept_raised : (v : ℕ) → is_ended (phases (vm v)) ≡ false → is_raised q v ≡ is_raised p v
  kept_raised v h = λ i. list_any (λ r. not (kept_demand v r h i == amount_of (kept_machine v h i) r)) (range_with_len 0 (length (rest.resources i)))

  kept_machine_kind : (v : ℕ) → is_ended (phases (vm v)) ≡ false → (place : Place) → kind_of q (vm v) place ≡ kind_of p (vm v) place
  unfolding kind_of
  kept_machine_kind v h place = λ i.
      if same_place place i then machine_kind (state_in (kept_machine v h i)) (end_wish (state_in (kept_machine v h i)) (same_wanted (vm v) i)) (kept_raised v h i) place else None

  kept_node_kind : (n : ℕ) → is_ended (phases (node n)) ≡ false → (place : Place) → kind_of q (node n) place ≡ kind_of p (node n) place
  unfolding kind_of wanted_node
  kept_node_kind n h place = rw (kept_node n h, rest.constraints) refl

  pub kept_kind : (e : Element) → is_ended (phases e) ≡ false → (place : Place) → kind_of q e place ≡ kind_of p e place
  kept_kind (Vm v) h place = kept_machine_kind v.0 h place
  kept_kind (TheNode n) h place = kept_node_kind n.0 h place

  -- how long an action of a kind lasts
  kept_lasting : (e : Element) → is_ended (phases e) ≡ false → (kind : Kind) → duration_of q e kind ≡ duration_of p e kind
  unfolding duration_of
  kept_lasting (Vm v) h kind = λ i. value_of (unwrap_or (machine_own (kept_machine v.0 h i) (kind_number kind)) (slice_index_or (rest.durations i) (kind_number kind) (record { base = 1; per = 0; resource = None }))) (amount_of (kept_machine v.0 h i))
  kept_lasting (TheNode n) h kind = λ i. value_of (unwrap_or (node_own (kept_node n.0 h i) (kind_number kind)) (slice_index_or (rest.durations i) (kind_number kind) (record { base = 1; per = 0; resource = None }))) (written_amount (kept_node n.0 h i))

  of_kind : (e : Element) → ((kind : Kind) → duration_of q e kind ≡ duration_of p e kind) → (kind : Option Kind) → kind_duration q e kind ≡ kind_duration p e kind
  unfolding kind_duration
  of_kind e h None = refl
  of_kind e h (Some kind) = h kind

  pub kept_duration : (e : Element) → is_ended (phases e) ≡ false → (place : Place) → action_duration q e place ≡ action_duration p e place
  unfolding action_duration
  kept_duration e h place = rw (kept_kind e h place) (of_kind e (kept_lasting e h) (kind_of p e place))

  pub kept_stage : (e : Element) → is_ended (phases e) ≡ false → (c : Choice) (t : ℕ) → stage_at q e c t ≡ stage_at p e c t
  unfolding stage_at
  kept_stage e h Idle t = refl
  kept_stage e h (Act place start) t = rw (kept_duration e h place) refl

  -- ---- what a machine holds that has not ended

  kept_weight : (v : ℕ) → is_ended (phases (vm v)) ≡ false → (w : Weight) (what : What) → weight_of q v w what ≡ weight_of p v w what
  kept_weight v h (Amount r) Use = rw (kept_machine v h) refl
  kept_weight v h (Amount r) Demand = kept_demand v r h
  kept_weight v h (Amount r) Raise = rw (kept_machine v h, kept_demand v r h) refl
  kept_weight v h (Amount r) OfImage = refl
  kept_weight v h Presence Use = refl
  kept_weight v h Presence Demand = refl
  kept_weight v h Presence Raise = refl
  kept_weight v h Presence OfImage = refl
  kept_weight v h Image Use = refl
  kept_weight v h Image Demand = refl
  kept_weight v h Image Raise = refl
  kept_weight v h Image OfImage = refl

  kept_weigh : (v : ℕ) → is_ended (phases (vm v)) ≡ false → (w : Weight) (o : Option Slice) (g : Stage) (set : Nodes) → weigh q v w o g set ≡ weigh p v w o g set
  kept_weigh v h w None g set = refl
  kept_weigh v h w (Some s) g set = rw (kept_weight v h w s.what) refl

  kept_slices : (v : ℕ) → is_ended (phases (vm v)) ≡ false → (c : Choice) → slices_of q v c ≡ slices_of p v c
  unfolding slices_of
  kept_slices v h Idle = rw (kept_machine v h) refl
  kept_slices v h (Act place start) = rw (kept_machine v h, kept_kind (vm v) h place) refl

  pub kept_held : (v : ℕ) → is_ended (phases (vm v)) ≡ false → (w : Weight) (set : Nodes) (c : Choice) (g : Stage) → held_by q v w set c g ≡ held_by p v w set c g
  unfolding held_by
  kept_held v h w set c g =
      rw (kept_slices v h c, kept_weigh v h w (slices_of p v c).source g set, kept_weigh v h w (slices_of p v c).target g set, kept_weigh v h w (slices_of p v c).image g set) refl
