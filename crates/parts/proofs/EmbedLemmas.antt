-- The part of a group stands in the whole.
use Rattle.std.proofs.Common.{IsTrue, slice_get}
use Rattle.std.specs.List.{filter, filter_map}
use Rattle.base.proofs.Public.{◌≡◌, inl, inr, ℕ, zero, suc, ◌+◌, ◌<◌, ◌≤◌, Bool, true, false, not, ◌==◌, ◌||◌, List, [], ◌∷◌, length, map, max, Option, None, Some, is_some, option_and_then, option_map, unwrap_or, refl, sym, ap, ap₂, subst, ◌∙◌, arith, all_pass, and_parts, cases_Bool, eqb-true, false≢true, fold, get_or_from_slice_get, list_all, range_with_len, slice_get-map}
use Rattle.std.proofs.lemmas.Option.{slice_get-get_or}
use Rattle.cluster.proofs.Public.{is_online-lt}
use Rattle.cluster.specs.declared.ids.NodeId.{NodeId}
use Rattle.cluster.specs.declared.kinds.Kind.{Kind}
use Rattle.cluster.specs.declared.machines.Machine.{Machine}
use Rattle.cluster.specs.declared.nodes.Node.{Node}
use Rattle.cluster.specs.declared.sets.NodeSet.{NodeSet}
use Rattle.cluster.specs.declared.states.State.{State}
use Rattle.cluster.specs.declared.states.State.TheVariants.{Init, Ready, Running, Sleeping, Gone}
use Rattle.cluster.specs.States.{host_of}
use Rattle.catalogue.specs.Prelude.{amount_of, capacity_of, demand_of, host_is_online, Instance, is_online, IsInstance, kind_number, limit_of, limit_with, machine_wish_with, max_nodes, node_wish_with, preserved_of, preserved_with, use_of, wanted_machine, wanted_node, written_amount, written_of}
use Rattle.catalogue.specs.declared.constraint.Constraint.{Constraint}
use Rattle.catalogue.specs.declared.targets.Wish.TheVariants.{Keep}
use Rattle.slices.specs.Actions.{common_of, duration_of, machine_own, node_own, value_of}
use Rattle.slices.specs.Elements.{machine_count, node, node_count, state_in, state_of, vm}
use Rattle.slices.specs.Forms.{form_of}
use Rattle.parts.specs.Cuts.{cut_constraint, renumbered_state}
use Rattle.parts.specs.Embeds.{Embeds, IsFrom, node_at, vm_at}
use Rattle.parts.specs.Groups.{AreGroups, group_by, in_group, machine_group, node_group}
use Rattle.parts.specs.Numbers.{new_number, old_number, passing}
use Rattle.parts.specs.Parts.{constraints_in, cut_host, has_form, in_part, machines_in_part, nodes_in, part_of}
use Rattle.parts.specs.Splits.{home, is_joint}
use Rattle.parts.proofs.CutLemmas.{all_filtered, folds_agree, says_nothing, says_of_machine, says_of_node, SaysNothing}
use Rattle.parts.proofs.FindLemmas.{found}
use Rattle.parts.proofs.NumberLemmas.{old_in, old_new, old_passes}

-- ---- what is listed at the places of a list

some_at : {A : Type 0} (xs : List A) (v : ℕ) → v < length xs → is_some (slice_get xs v) ≡ true
some_at [] v l = absurd (omega arith)
some_at (x ∷ xs) zero l = refl
some_at (x ∷ xs) (suc v) l = some_at xs v (omega arith)

pub the_item : {A : Type 0} (xs : List A) (v : ℕ) → v < length xs → (x : A) × (slice_get xs v ≡ Some x)
the_item [] v l = absurd (omega arith)
the_item (x ∷ xs) zero l = (x, refl)
the_item (x ∷ xs) (suc v) l = the_item xs v (omega arith)

-- where each number gives an item, the items stand at the places of the numbers
module _ {B : Type 0} (give : ℕ → Option B) where
  pub given_at : (xs : List ℕ) → list_all (λ x. is_some (give x)) xs ≡ true → (k : ℕ) → slice_get (filter_map give xs) k ≡ option_and_then give (slice_get xs k)
  given_at [] all k = refl
  given_at (x ∷ xs) all k =
      let sides = and_parts (is_some (give x)) (list_all (λ x. is_some (give x)) xs) all in
      by (give x) refl sides.0 k (given_at xs sides.1)
    where
      by : (o : Option B) → give x ≡ o → is_some (give x) ≡ true → (k : ℕ) → ((j : ℕ) → slice_get (filter_map give xs) j ≡ option_and_then give (slice_get xs j)) → slice_get (filter_map give (x ∷ xs)) k ≡ option_and_then give (slice_get (x ∷ xs) k)
      by None e some k later = let none : false ≡ true = rw e at some in absurd (false≢true none)
      by (Some y) e some zero later = rw e refl
      by (Some y) e some (suc j) later = rw e (later j)

  pub given_count : (xs : List ℕ) → list_all (λ x. is_some (give x)) xs ≡ true → length (filter_map give xs) ≡ length xs
  given_count [] all = refl
  given_count (x ∷ xs) all =
      let sides = and_parts (is_some (give x)) (list_all (λ x. is_some (give x)) xs) all in
      by (give x) refl sides.0 (given_count xs sides.1)
    where
      by : (o : Option B) → give x ≡ o → is_some (give x) ≡ true → length (filter_map give xs) ≡ length xs → length (filter_map give (x ∷ xs)) ≡ length (x ∷ xs)
      by None e some later = let none : false ≡ true = rw e at some in absurd (false≢true none)
      by (Some y) e some later = rw e (ap suc later)

-- the items of a list whose places pass a test
module _ {A B : Type 0} (f : A → B) (xs : List A) (test : ℕ → Bool) where
  all_given : list_all (λ v. is_some (option_map f (slice_get xs v))) (passing test (length xs)) ≡ true
  all_given = all_filtered test (λ v. is_some (option_map f (slice_get xs v))) (range_with_len 0 (length xs)) (all_pass (λ v. is_some (option_map f (slice_get xs v))) 0 (length xs) (λ k low high. some_still (slice_get xs k) (some_at xs k (omega (arith, high)))))
    where
      some_still : (o : Option A) → is_some o ≡ true → is_some (option_map f o) ≡ true
      some_still None e = e
      some_still (Some x) e = refl

  pub kept_count : length (filter_map (λ v. option_map f (slice_get xs v)) (passing test (length xs))) ≡ length (passing test (length xs))
  kept_count = given_count (λ v. option_map f (slice_get xs v)) (passing test (length xs)) all_given

  pub kept_at : (k : ℕ) → k < length (passing test (length xs)) → slice_get (filter_map (λ v. option_map f (slice_get xs v)) (passing test (length xs))) k ≡ option_map f (slice_get xs (old_number test (length xs) k))
  kept_at k l =
      given_at (λ v. option_map f (slice_get xs v)) (passing test (length xs)) all_given k
      ∙ ap (option_and_then (λ v. option_map f (slice_get xs v))) (slice_get-get_or (passing test (length xs)) k (length xs + k) l)

-- ---- the numbers of hosts, there and back

pub renumbered_back : (there back : ℕ → ℕ) (s : State) → ((h : NodeId) → host_of s ≡ Some h → back (there h.0) ≡ h.0) → renumbered_state back (renumbered_state there s) ≡ s
renumbered_back there back Init same = refl
renumbered_back there back Ready same = refl
renumbered_back there back (Running h) same = ap (λ (n : ℕ). Running (record { 0 = n })) (same h refl)
renumbered_back there back (Sleeping h) same = ap (λ (n : ℕ). Sleeping (record { 0 = n })) (same h refl)
renumbered_back there back Gone same = refl

-- ---- lists that are filtered and mapped

pub filter_has : {A : Type 0} (test : A → Bool) (xs : List A) (c : ℕ) (x : A) → slice_get xs c ≡ Some x → test x ≡ true → (d : ℕ) × (slice_get (filter test xs) d ≡ Some x)
filter_has test [] c x at pass = absurd (cc at)
filter_has test (y ∷ xs) zero x at pass =
    let same : y ≡ x = cc at in
    (0, rw (ap test same ∙ pass) at)
filter_has test (y ∷ xs) (suc c) x at pass =
    let w = filter_has test xs c x at pass in
    elim (cases_Bool (test y)) [
      | inl here ↦ (suc w.0, rw here w.1)
      | inr out ↦ (w.0, rw out w.1)
    ]

pub filter_only : {A : Type 0} (test : A → Bool) (xs : List A) (d : ℕ) (x : A) → slice_get (filter test xs) d ≡ Some x → (c : ℕ) × (slice_get xs c ≡ Some x) × (test x ≡ true)
filter_only test [] d x at = absurd (cc at)
filter_only test (y ∷ xs) d x at =
    elim (cases_Bool (test y)) [
      | inl here ↦
          let kept : slice_get (y ∷ filter test xs) d ≡ Some x = rw here at at in
          first d kept here (λ e h. filter_only test xs e x h)
      | inr out ↦
          let kept : slice_get (filter test xs) d ≡ Some x = rw out at at in
          let w = filter_only test xs d x kept in
          (suc w.0, w.1, w.2)
    ]
  where
    first : (d : ℕ) → slice_get (y ∷ filter test xs) d ≡ Some x → test y ≡ true → ((e : ℕ) → slice_get (filter test xs) e ≡ Some x → (c : ℕ) × (slice_get xs c ≡ Some x) × (test x ≡ true)) → (c : ℕ) × (slice_get (y ∷ xs) c ≡ Some x) × (test x ≡ true)
    first zero h here rest = let same : y ≡ x = cc h in (0, h, ap test (sym same) ∙ here)
    first (suc e) h here rest = let w = rest e h in (suc w.0, w.1, w.2)

pub mapped_from : {A B : Type 0} (f : A → B) (xs : List A) (d : ℕ) (y : B) → slice_get (map f xs) d ≡ Some y → (x : A) × (slice_get xs d ≡ Some x) × (f x ≡ y)
mapped_from f [] d y at = absurd (cc at)
mapped_from f (x ∷ xs) zero y at = (x, refl, cc at)
mapped_from f (x ∷ xs) (suc d) y at = mapped_from f xs d y at

mapped_same : {A : Type 0} (o : Option A) → option_map (λ x. x) o ≡ o
mapped_same None = refl
mapped_same (Some x) = refl

-- the same node is as online
same_online : (xs ys : List Node) (a b : ℕ) → slice_get ys b ≡ slice_get xs a → is_online xs a ≡ is_online ys b
same_online xs ys a b same = by (slice_get xs a) refl
  where
    by : (o : Option Node) → slice_get xs a ≡ o → is_online xs a ≡ is_online ys b
    by None e = let other : slice_get ys b ≡ None = same ∙ e in rw (e, other) refl
    by (Some x) e = let other : slice_get ys b ≡ Some x = same ∙ e in rw (e, other) refl

-- each node is in a group
abbrev pub AreCovered : Instance → List NodeSet → Type 0
AreCovered p groups = (n : ℕ) → n < node_count p → (j : ℕ) × (node_group groups n ≡ Some j)

module _ (p : Instance) (groups : List NodeSet) (i : ℕ) (sound : IsInstance p) (fit : AreGroups p groups) (covered : AreCovered p groups) where
  -- ---- the hosts of the part's machines

  host_listed : (v : ℕ) → v < machine_count p → (h : NodeId) → host_of (state_of p v) ≡ Some h → h.0 < node_count p
  host_listed v l h e =
      let m = the_item p.machines v l in
      let online : host_is_online p.nodes m.0.state ≡ true = subst (λ (x : Machine). host_is_online p.nodes x.state ≡ true) (get_or_from_slice_get p.machines v m.0 m.0 m.1) (sound.inventory.hosts v m.0 l) in
      let state : state_of p v ≡ m.0.state = ap state_in m.1 in
      of m.0.state online (ap host_of (sym state) ∙ e)
    where
      no_host : None ≡ Some h → ⊥
      no_host x = cc x

      of : (s : State) → host_is_online p.nodes s ≡ true → host_of s ≡ Some h → h.0 < node_count p
      of Init online here = absurd (no_host here)
      of Ready online here = absurd (no_host here)
      of (Running x) online here = let same : x ≡ h = cc here in subst (λ (y : NodeId). y.0 < node_count p) same (is_online-lt p.nodes x.0 online)
      of (Sleeping x) online here = let same : x ≡ h = cc here in subst (λ (y : NodeId). y.0 < node_count p) same (is_online-lt p.nodes x.0 online)
      of Gone online here = absurd (no_host here)

  pub host_ours : (v : ℕ) → v < machine_count p → in_part p groups i v ≡ true → (h : NodeId) → host_of (state_of p v) ≡ Some h → IsTrue (in_group groups i h.0)
  unfolding machine_group
  host_ours v l mine h e =
      let w = covered h.0 (host_listed v l h e) in
      let here : IsTrue (in_group groups w.0 h.0) = (found (λ j. in_group groups j h.0) 0 (length groups) w.0 w.1).passes in
      let by_host : machine_group p groups v ≡ w.0 = ap (group_by p groups v) e ∙ ap (λ (o : Option ℕ). unwrap_or o 0) w.1 in
      let same : w.0 ≡ i = sym by_host ∙ eqb-true (machine_group p groups v) i mine in
      subst (λ (j : ℕ). IsTrue (in_group groups j h.0)) same here

  -- ---- what stands at the new numbers

  part_machines : length (machines_in_part (in_part p groups i) (in_group groups i) p.machines (machine_count p)) ≡ length (passing (in_part p groups i) (machine_count p))
  part_machines = kept_count (cut_host (in_group groups i)) p.machines (in_part p groups i)

  part_machine : (k : ℕ) → k < length (passing (in_part p groups i) (machine_count p)) → slice_get (machines_in_part (in_part p groups i) (in_group groups i) p.machines (machine_count p)) k ≡ option_map (cut_host (in_group groups i)) (slice_get p.machines (vm_at p (in_part p groups i) k))
  part_machine k l = kept_at (cut_host (in_group groups i)) p.machines (in_part p groups i) k l

  same_nodes : nodes_in (in_group groups i) p.nodes (node_count p) ≡ filter_map (λ n. option_map (λ (x : Node). x) (slice_get p.nodes n)) (passing (in_group groups i) (node_count p))
  same_nodes = λ j. filter_map (λ n. sym (mapped_same (slice_get p.nodes n)) j) (passing (in_group groups i) (node_count p))

  part_nodes : length (nodes_in (in_group groups i) p.nodes (node_count p)) ≡ length (passing (in_group groups i) (node_count p))
  part_nodes = ap length (same_nodes) ∙ kept_count (λ (x : Node). x) p.nodes (in_group groups i)

  part_node : (m : ℕ) → m < length (passing (in_group groups i) (node_count p)) → slice_get (nodes_in (in_group groups i) p.nodes (node_count p)) m ≡ slice_get p.nodes (node_at p (in_group groups i) m)
  part_node m l = ap (λ (l : List Node). slice_get l m) same_nodes ∙ kept_at (λ (x : Node). x) p.nodes (in_group groups i) m l ∙ mapped_same (slice_get p.nodes (node_at p (in_group groups i) m))

  -- ---- the record

  few_nodes : node_count p ≤ max_nodes
  few_nodes = sound.inventory.few_nodes

  module _ (k : ℕ) (l : k < length (passing (in_part p groups i) (machine_count p))) where
    v_below : vm_at p (in_part p groups i) k < machine_count p
    v_below = old_in (in_part p groups i) (machine_count p) k l

    state_agrees : (x : Machine) → slice_get p.machines (vm_at p (in_part p groups i) k) ≡ Some x → renumbered_state (node_at p (in_group groups i)) (renumbered_state (new_number (in_group groups i)) x.state) ≡ x.state
    state_agrees x at =
        renumbered_back (new_number (in_group groups i)) (node_at p (in_group groups i)) x.state (λ h e.
        let host : host_of (state_of p (vm_at p (in_part p groups i) k)) ≡ Some h = ap (λ (o : Option Machine). host_of (state_in o)) at ∙ e in
        let below = host_listed (vm_at p (in_part p groups i) k) v_below h host in
        let ours = host_ours (vm_at p (in_part p groups i) k) v_below (old_passes (in_part p groups i) (machine_count p) k l) h host in
        old_new (in_group groups i) (node_count p) h.0 below ours)

  joint_left_out : (c : Constraint) → has_form p groups i (form_of c) ≡ false → is_joint (form_of c) ≡ true
  joint_left_out c out = by (is_joint (form_of c)) (home p groups (form_of c) == i) out
    where
      by : (a b : Bool) → (not a || b) ≡ false → a ≡ true
      by true b e = refl
      by false b e = absurd (false≢true (sym e))

  says_none : (c : Constraint) → has_form p groups i (form_of c) ≡ false → SaysNothing c
  says_none c out = says_nothing c (joint_left_out c out)

  preserved_agrees : (k r : ℕ) → k < length (passing (in_part p groups i) (machine_count p)) → preserved_of (part_of p groups i) k r ≡ preserved_of p (vm_at p (in_part p groups i) k) r
  unfolding preserved_of part_of
  preserved_agrees k r l =
      folds_agree (preserved_with k r) (preserved_with (vm_at p (in_part p groups i) k) r) (cut_constraint (in_part p groups i) (in_group groups i) (node_count p)) (λ c. has_form p groups i (form_of c))
      (λ a c. (says_of_machine (in_part p groups i) (in_group groups i) (machine_count p) (node_count p) k l c).preserved r a)
      (λ a c out. (says_none c out).preserved (vm_at p (in_part p groups i) k) r a) 0 p.constraints

  wish_agrees : (k : ℕ) → k < length (passing (in_part p groups i) (machine_count p)) → wanted_machine (part_of p groups i) k ≡ wanted_machine p (vm_at p (in_part p groups i) k)
  unfolding wanted_machine part_of
  wish_agrees k l =
      folds_agree (machine_wish_with k) (machine_wish_with (vm_at p (in_part p groups i) k)) (cut_constraint (in_part p groups i) (in_group groups i) (node_count p)) (λ c. has_form p groups i (form_of c))
      (λ w c. (says_of_machine (in_part p groups i) (in_group groups i) (machine_count p) (node_count p) k l c).wish w)
      (λ w c out. (says_none c out).wish (vm_at p (in_part p groups i) k) w) Keep p.constraints

  node_wish_agrees : (m : ℕ) → m < length (passing (in_group groups i) (node_count p)) → wanted_node (part_of p groups i) m ≡ wanted_node p (node_at p (in_group groups i) m)
  unfolding wanted_node part_of
  node_wish_agrees m l =
      folds_agree (node_wish_with m) (node_wish_with (node_at p (in_group groups i) m)) (cut_constraint (in_part p groups i) (in_group groups i) (node_count p)) (λ c. has_form p groups i (form_of c))
      (λ w c. (says_of_node (in_part p groups i) (in_group groups i) (node_count p) few_nodes m l c).wish w)
      (λ w c out. (says_none c out).node_wish (node_at p (in_group groups i) m) w) Keep p.constraints

  limit_agrees : (m r w : ℕ) → m < length (passing (in_group groups i) (node_count p)) → fold (limit_with m r w) None (constraints_in p groups i) ≡ fold (limit_with (node_at p (in_group groups i) m) r w) None p.constraints
  limit_agrees m r w l =
      folds_agree (limit_with m r w) (limit_with (node_at p (in_group groups i) m) r w) (cut_constraint (in_part p groups i) (in_group groups i) (node_count p)) (λ c. has_form p groups i (form_of c))
      (λ o c. (says_of_node (in_part p groups i) (in_group groups i) (node_count p) few_nodes m l c).limit r w o)
      (λ o c out. (says_none c out).limit (node_at p (in_group groups i) m) r w o) None p.constraints

  used_agrees : (k r : ℕ) → k < length (passing (in_part p groups i) (machine_count p)) → use_of p.machines (vm_at p (in_part p groups i) k) r ≡ use_of (part_of p groups i).machines k r
  unfolding part_of
  used_agrees k r l = uncut (slice_get p.machines (vm_at p (in_part p groups i) k)) ∙ ap (λ (o : Option Machine). amount_of o r) (sym (part_machine k l))
    where
      uncut : (o : Option Machine) → amount_of o r ≡ amount_of (option_map (cut_host (in_group groups i)) o) r
      uncut None = refl
      uncut (Some x) = refl

  own_agrees : (k number : ℕ) → k < length (passing (in_part p groups i) (machine_count p)) → machine_own (slice_get p.machines (vm_at p (in_part p groups i) k)) number ≡ machine_own (slice_get (part_of p groups i).machines k) number
  unfolding part_of
  own_agrees k number l = uncut (slice_get p.machines (vm_at p (in_part p groups i) k)) ∙ ap (λ (o : Option Machine). machine_own o number) (sym (part_machine k l))
    where
      uncut : (o : Option Machine) → machine_own o number ≡ machine_own (option_map (cut_host (in_group groups i)) o) number
      uncut None = refl
      uncut (Some x) = refl

  commons : (kind : Kind) → common_of p kind ≡ common_of (part_of p groups i) kind
  unfolding part_of
  commons kind = refl

  duration_agrees : (k : ℕ) (kind : Kind) → k < length (passing (in_part p groups i) (machine_count p)) → duration_of p (vm (vm_at p (in_part p groups i) k)) kind ≡ duration_of (part_of p groups i) (vm k) kind
  unfolding duration_of
  duration_agrees k kind l = ap₂ value_of (ap₂ unwrap_or (own_agrees k (kind_number kind) l) (commons kind)) (λ j r. used_agrees k r l j)

  pub machine_there : (k : ℕ) → k < length (passing (in_part p groups i) (machine_count p)) → slice_get (part_of p groups i).machines k ≡ option_map (cut_host (in_group groups i)) (slice_get p.machines (vm_at p (in_part p groups i) k))
  unfolding part_of
  machine_there k l = part_machine k l

  pub node_there : (m : ℕ) → m < length (passing (in_group groups i) (node_count p)) → slice_get (part_of p groups i).nodes m ≡ slice_get p.nodes (node_at p (in_group groups i) m)
  unfolding part_of
  node_there m l = part_node m l

  node_duration_agrees : (m : ℕ) (kind : Kind) → m < length (passing (in_group groups i) (node_count p)) → duration_of p (node (node_at p (in_group groups i) m)) kind ≡ duration_of (part_of p groups i) (node m) kind
  unfolding duration_of
  node_duration_agrees m kind l = ap₂ value_of (ap₂ unwrap_or (ap (λ (o : Option Node). node_own o (kind_number kind)) (sym (node_there m l))) (commons kind)) (λ j r. written_amount (sym (node_there m l) j) r)

  part_limits : (m r w : ℕ) → m < length (passing (in_group groups i) (node_count p)) → fold (limit_with m r w) None (part_of p groups i).constraints ≡ fold (limit_with (node_at p (in_group groups i) m) r w) None p.constraints
  unfolding part_of
  part_limits m r w l = limit_agrees m r w l

  capacity_agrees : (m r : ℕ) → m < length (passing (in_group groups i) (node_count p)) → capacity_of p (node_at p (in_group groups i) m) r ≡ capacity_of (part_of p groups i) m r
  unfolding capacity_of limit_of
  capacity_agrees m r l =
      let written : written_of p.nodes (node_at p (in_group groups i) m) r ≡ written_of (part_of p groups i).nodes m r = ap (λ (o : Option Node). written_amount o r) (sym (node_there m l)) in
      ap₂ unwrap_or (sym (part_limits m r (written_of p.nodes (node_at p (in_group groups i) m) r) l) ∙ ap (λ (w : ℕ). fold (limit_with m r w) None (part_of p groups i).constraints) written) written

  -- ---- constraints

  horizons : (part_of p groups i).horizon ≡ p.horizon
  unfolding part_of
  horizons = refl

  resources_same : (part_of p groups i).resources ≡ p.resources
  unfolding part_of
  resources_same = refl

  machines_same : machine_count (part_of p groups i) ≡ length (passing (in_part p groups i) (machine_count p))
  unfolding part_of
  machines_same = part_machines

  nodes_same : node_count (part_of p groups i) ≡ length (passing (in_group groups i) (node_count p))
  unfolding part_of
  nodes_same = part_nodes

  counted : (k : ℕ) → k < machine_count (part_of p groups i) → k < length (passing (in_part p groups i) (machine_count p))
  counted k l = subst (λ (n : ℕ). k < n) machines_same l

  counted_node : (m : ℕ) → m < node_count (part_of p groups i) → m < length (passing (in_group groups i) (node_count p))
  counted_node m l = subst (λ (n : ℕ). m < n) nodes_same l

  states : (k : ℕ) → k < length (passing (in_part p groups i) (machine_count p)) → state_of p (vm_at p (in_part p groups i) k) ≡ renumbered_state (node_at p (in_group groups i)) (state_of (part_of p groups i) k)
  unfolding part_of
  states k l =
      let x = the_item p.machines (vm_at p (in_part p groups i) k) (v_below k l) in
      let there : state_of p (vm_at p (in_part p groups i) k) ≡ x.0.state = ap state_in x.1 in
      let here : state_of (part_of p groups i) k ≡ renumbered_state (new_number (in_group groups i)) x.0.state = ap state_in (part_machine k l ∙ ap (option_map (cut_host (in_group groups i))) x.1) in
      there ∙ sym (state_agrees k l x.0 x.1) ∙ ap (renumbered_state (node_at p (in_group groups i))) (sym here)

  demands : (k r : ℕ) → k < length (passing (in_part p groups i) (machine_count p)) → demand_of p (vm_at p (in_part p groups i) k) r ≡ demand_of (part_of p groups i) k r
  unfolding demand_of
  demands k r l = ap₂ max (used_agrees k r l) (sym (preserved_agrees k r l))

  has_cut : (c : ℕ) (x : Constraint) → slice_get p.constraints c ≡ Some x → has_form p groups i (form_of x) ≡ true → (d : ℕ) × (slice_get (part_of p groups i).constraints d ≡ Some (cut_constraint (in_part p groups i) (in_group groups i) (node_count p) x))
  unfolding part_of
  has_cut c x at kept =
      let w = filter_has (λ y. has_form p groups i (form_of y)) p.constraints c x at kept in
      (w.0, slice_get-map (cut_constraint (in_part p groups i) (in_group groups i) (node_count p)) _ w.0 ∙ ap (option_map (cut_constraint (in_part p groups i) (in_group groups i) (node_count p))) w.1)

  only_cut : (d : ℕ) (y : Constraint) → slice_get (part_of p groups i).constraints d ≡ Some y → IsFrom p (in_part p groups i) (in_group groups i) (has_form p groups i) y
  unfolding part_of
  only_cut d y at =
      let w = mapped_from (cut_constraint (in_part p groups i) (in_group groups i) (node_count p)) (filter (λ c. has_form p groups i (form_of c)) p.constraints) d y at in
      let u = filter_only (λ c. has_form p groups i (form_of c)) p.constraints d w.0 w.1 in
      record { place = u.0; x = w.0; at = u.1; kept = u.2; cut = w.2 }

  pub embeds : Embeds p (part_of p groups i) (in_part p groups i) (in_group groups i) (has_form p groups i)
  embeds = record {
    horizon = horizons;
    few = few_nodes;
    resources = resources_same;
    listed = fit.listed i;
    machines = machines_same;
    nodes = nodes_same;
    state = λ k l. states k (counted k l);
    used = λ k r l. used_agrees k r (counted k l);
    demand = λ k r l. demands k r (counted k l);
    wish = λ k l. sym (wish_agrees k (counted k l));
    duration = λ k kind l. duration_agrees k kind (counted k l);
    online = λ m l. same_online p.nodes (part_of p groups i).nodes (node_at p (in_group groups i) m) m (node_there m (counted_node m l));
    capacity = λ m r l. capacity_agrees m r (counted_node m l);
    node_wish = λ m l. sym (node_wish_agrees m (counted_node m l));
    node_duration = λ m kind l. node_duration_agrees m kind (counted_node m l);
    has = has_cut;
    only = only_cut;
  }
