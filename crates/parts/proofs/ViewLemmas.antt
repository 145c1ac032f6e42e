-- A part's snapshot keeps what the whole's keeps, and the other way round: by form.
use Rattle.std.proofs.Common.{IsTrue, slice_index_or}
use Rattle.base.specs.Sums.{sum_to}
use Rattle.base.proofs.Public.{◌≡◌, inl, inr, ℕ, zero, suc, ◌+◌, ◌<◌, ◌≤◌, Bool, true, false, ◌==◌, List, [], ◌∷◌, length, map, if◌then◌else◌, refl, sym, ap, ap₂, subst, ◌∙◌, arith, cases_Bool, cases_lt, eqb-true, eq-eqb, false≢true, get_or-map-range_with_len, length-map, length-map-range_with_len, or_left, or_right, sum_to-same, true≢false}
use Rattle.cluster.specs.declared.ids.VmId.{VmId}
use Rattle.cluster.specs.declared.sets.NodeSet.{NodeSet}
use Rattle.cluster.specs.declared.states.State.{State}
use Rattle.catalogue.specs.Prelude.{are_below, has_node, Instance, is_member, no_nodes}
use Rattle.slices.specs.declared.slice.Weight.{Weight}
use Rattle.slices.specs.declared.stage.Progress.{Progress}
use Rattle.slices.specs.declared.stage.Progress.TheVariants.{Started, Unended, Acting}
use Rattle.slices.specs.Elements.{machine_count, node_count, state_of}
use Rattle.slices.specs.Forms.{Form, Apart, Allowed, Together, Ordered, InTurn, Bounded, Powered, Settled, Groups, AnyNode, AnyOf, Places, Outside, Within, OnHost, Separation, Each, Between, FromOthers, members, separated}
use Rattle.slices.specs.Holds.{AreAbsent, AreAllowed, AreApart, AreGrouped, AreWithin, group_sets, IsKept, IsMember, IsOffLimits, runs_elsewhere, Separates, TakeTurns}
use Rattle.slices.specs.Snapshots.{powered_nodes, Snapshot, total}
use Rattle.slices.specs.Stages.{Nodes, one}
use Rattle.slices.proofs.Public.{joined_member, member_below}
use Rattle.parts.proofs.CutForms.{cut_choices, cut_form, cut_places, cut_separation}
use Rattle.parts.specs.Cuts.{cut_machines, cut_nodes}
use Rattle.parts.specs.Embeds.{Embeds, node_at, vm_at}
use Rattle.parts.specs.Numbers.{new_number, passing}
use Rattle.parts.specs.Splits.{is_joint, joint_sets}
use Rattle.parts.proofs.CutLemmas.{member_agrees, no_more_nodes, node_agrees}
use Rattle.parts.proofs.HoldLemmas.{elsewhere_renumbered}
use Rattle.parts.proofs.NumberLemmas.{new_in, old_apart, old_in, old_new, old_passes, old_past, same_new, sum_to-passing}

-- what is where in a part, beside what is where in the whole: its machines hold the same, on its nodes alone, and no others hold anything there
pub record IsView (p q : Instance) (mine ours : ℕ → Bool) (s u : Snapshot) : Type 0 where
  pub held : (k : ℕ) (w : Weight) (set : Nodes) → k < machine_count q → s.held (vm_at p mine k) w set ≡ u.held k w (λ n. set (node_at p ours n))
  pub present : (k : ℕ) (set : Nodes) → k < machine_count q → s.present (vm_at p mine k) set ≡ u.present k (λ n. set (node_at p ours n))
  pub usable : (m : ℕ) → m < node_count q → s.usable (node_at p ours m) ≡ u.usable m
  pub powered : (m : ℕ) → m < node_count q → s.powered (node_at p ours m) ≡ u.powered m
  pub action : (k : ℕ) (far : Progress) → k < machine_count q → s.action (vm_at p mine k) far ≡ u.action k far
  pub others : (v : ℕ) (w : Weight) (set : Nodes) → v < machine_count p → mine v ≡ false → ((n : ℕ) → IsTrue (set n) → IsTrue (ours n)) → s.held v w set ≡ 0
  pub others_absent : (v : ℕ) (set : Nodes) → v < machine_count p → mine v ≡ false → ((n : ℕ) → IsTrue (set n) → IsTrue (ours n)) → s.present v set ≡ false
  pub elsewhere : (v x : ℕ) (w : Weight) → v < machine_count p → IsTrue (mine v) → x < node_count p → ours x ≡ false → s.held v w (one x) ≡ 0
  pub elsewhere_absent : (v x : ℕ) → v < machine_count p → IsTrue (mine v) → x < node_count p → ours x ≡ false → s.present v (one x) ≡ false

-- all that a joint form names is in the part
pub record IsInside (p : Instance) (mine ours : ℕ → Bool) (f : Form) : Type 0 where
  pub listed : are_below (machine_count p) (members f) ≡ true
  pub machines : (v : ℕ) → IsMember (members f) v → IsTrue (mine v)
  pub nodes : (set : NodeSet) (c : ℕ) → c < length (joint_sets f) → slice_index_or (joint_sets f) c set ≡ set → (n : ℕ) → IsTrue (has_node set n) → IsTrue (ours n)

-- 1 where both tests hold
abbrev one_if : Bool → Bool → ℕ
one_if a b = if a then (if b then 1 else 0) else 0

-- a list of lists that are cut down
cut_part : (mine : ℕ → Bool) (parts : List (List VmId)) (i : ℕ) → slice_index_or (map (cut_machines mine) parts) i [] ≡ cut_machines mine (slice_index_or parts i [])
cut_part mine [] i = refl
cut_part mine (vs ∷ parts) zero = refl
cut_part mine (vs ∷ parts) (suc i) = cut_part mine parts i

mapped_item : {A B : Type 0} (f : A → B) (xs : List A) (k : ℕ) (d : A) (e : B) → k < length xs → slice_index_or (map f xs) k e ≡ f (slice_index_or xs k d)
mapped_item f [] k d e l = absurd (omega arith)
mapped_item f (x ∷ xs) zero d e l = refl
mapped_item f (x ∷ xs) (suc k) d e l = mapped_item f xs k d e (omega arith)

module _ (p q : Instance) (mine ours : ℕ → Bool) (keep : Form → Bool) (e : Embeds p q mine ours keep) where
  -- ---- numbers

  counted : (k : ℕ) → k < machine_count q → k < length (passing mine (machine_count p))
  counted k l = subst (λ (n : ℕ). k < n) e.machines l

  counted_node : (m : ℕ) → m < node_count q → m < length (passing ours (node_count p))
  counted_node m l = subst (λ (n : ℕ). m < n) e.nodes l

  pub vm_in : (k : ℕ) → k < machine_count q → vm_at p mine k < machine_count p
  vm_in k l = old_in mine (machine_count p) k (counted k l)

  pub vm_mine : (k : ℕ) → k < machine_count q → IsTrue (mine (vm_at p mine k))
  vm_mine k l = old_passes mine (machine_count p) k (counted k l)

  pub node_in : (m : ℕ) → m < node_count q → node_at p ours m < node_count p
  node_in m l = old_in ours (node_count p) m (counted_node m l)

  pub node_ours : (m : ℕ) → m < node_count q → IsTrue (ours (node_at p ours m))
  node_ours m l = old_passes ours (node_count p) m (counted_node m l)

  pub vm_new : (v : ℕ) → v < machine_count p → IsTrue (mine v) → new_number mine v < machine_count q
  vm_new v l m = subst (λ (n : ℕ). new_number mine v < n) (sym e.machines) (new_in mine (machine_count p) v l m)

  pub vm_back : (v : ℕ) → v < machine_count p → IsTrue (mine v) → vm_at p mine (new_number mine v) ≡ v
  vm_back v l m = old_new mine (machine_count p) v l m

  pub node_new : (n : ℕ) → n < node_count p → IsTrue (ours n) → new_number ours n < node_count q
  node_new n l o = subst (λ (m : ℕ). new_number ours n < m) (sym e.nodes) (new_in ours (node_count p) n l o)

  pub node_back : (n : ℕ) → n < node_count p → IsTrue (ours n) → node_at p ours (new_number ours n) ≡ n
  node_back n l o = old_new ours (node_count p) n l o

  member_cut : (k : ℕ) → k < machine_count q → (vs : List VmId) → is_member (cut_machines mine vs) k ≡ is_member vs (vm_at p mine k)
  member_cut k l vs = member_agrees mine (machine_count p) k (counted k l) vs

  -- a set, read at the numbers of the whole
  set_cut : (ns : NodeSet) → ((n : ℕ) → IsTrue (has_node ns n) → IsTrue (ours n)) → (m : ℕ) → has_node ns (node_at p ours m) ≡ has_node (cut_nodes ours (node_count p) ns) m
  set_cut ns inside m =
      elim (cases_lt m (length (passing ours (node_count p)))) [
        | inl low ↦ sym (node_agrees ours (node_count p) e.few ns m low)
        | inr past ↦
            let far : node_at p ours m ≡ node_count p + m = old_past ours (node_count p) m past in
            elim (cases_Bool (has_node ns (node_at p ours m))) [
              | inl there ↦ absurd (omega (arith, far, e.listed (node_at p ours m) (inside (node_at p ours m) there)))
              | inr none ↦ none ∙ sym (no_more_nodes ours (node_count p) e.few ns m past)
            ]
      ]

  -- which machines are kept apart
  apart_down : (separation : Separation) (k j : ℕ) → k < machine_count q → j < machine_count q → Separates (cut_separation mine separation) k j → Separates separation (vm_at p mine k) (vm_at p mine j)
  apart_down (Each vs) k j lk lj h = (sym (member_cut k lk vs) ∙ h.0, sym (member_cut j lj vs) ∙ h.1, λ same. h.2 (same_new mine (machine_count p) k j same))
  apart_down (Between parts) k j lk lj h = (
    h.0,
    h.1,
    h.2,
    sym (ap (λ (l : List VmId). is_member l k) (cut_part mine parts h.0) ∙ member_cut k lk (slice_index_or parts h.0 [])) ∙ h.3,
    sym (ap (λ (l : List VmId). is_member l j) (cut_part mine parts h.1) ∙ member_cut j lj (slice_index_or parts h.1 [])) ∙ h.4,
  )
  apart_down (FromOthers vs) k j lk lj h = (sym (member_cut k lk vs) ∙ h.0, λ m. h.1 (member_cut j lj vs ∙ m))

  apart_up : (separation : Separation) (k j : ℕ) → k < machine_count q → j < machine_count q → Separates separation (vm_at p mine k) (vm_at p mine j) → Separates (cut_separation mine separation) k j
  apart_up (Each vs) k j lk lj h = (member_cut k lk vs ∙ h.0, member_cut j lj vs ∙ h.1, λ same. h.2 (ap (vm_at p mine) same))
  apart_up (Between parts) k j lk lj h = (
    h.0,
    h.1,
    h.2,
    ap (λ (l : List VmId). is_member l k) (cut_part mine parts h.0) ∙ member_cut k lk (slice_index_or parts h.0 []) ∙ h.3,
    ap (λ (l : List VmId). is_member l j) (cut_part mine parts h.1) ∙ member_cut j lj (slice_index_or parts h.1 []) ∙ h.4,
  )
  apart_up (FromOthers vs) k j lk lj h = (member_cut k lk vs ∙ h.0, λ m. h.1 (sym (member_cut j lj vs) ∙ m))

  separated_member : (separation : Separation) (v w : ℕ) → Separates separation v w → IsMember (separated separation) v
  separated_member (Each vs) v w h = h.0
  separated_member (Between parts) v w h = joined_member parts h.0 v h.3
  separated_member (FromOthers vs) v w h = h.0

  -- where a member may not be
  limits_down : (places : Places) (k m : ℕ) → k < machine_count q → m < node_count q → IsOffLimits q (cut_places ours (node_count p) places) k m → IsOffLimits p places (vm_at p mine k) (node_at p ours m)
  limits_down (Outside ns) k m lk lm h = sym (node_agrees ours (node_count p) e.few ns m (counted_node m lm)) ∙ h
  limits_down (Within ns) k m lk lm h = sym (node_agrees ours (node_count p) e.few ns m (counted_node m lm)) ∙ h
  limits_down OnHost k m lk lm h =
      ap (λ (s : State). runs_elsewhere s (node_at p ours m)) (e.state k lk) ∙ elsewhere_renumbered (node_at p ours) (old_apart ours (node_count p)) (state_of q k) m ∙ h

  limits_up : (places : Places) (k m : ℕ) → k < machine_count q → m < node_count q → IsOffLimits p places (vm_at p mine k) (node_at p ours m) → IsOffLimits q (cut_places ours (node_count p) places) k m
  limits_up (Outside ns) k m lk lm h = node_agrees ours (node_count p) e.few ns m (counted_node m lm) ∙ h
  limits_up (Within ns) k m lk lm h = node_agrees ours (node_count p) e.few ns m (counted_node m lm) ∙ h
  limits_up OnHost k m lk lm h =
      sym (ap (λ (s : State). runs_elsewhere s (node_at p ours m)) (e.state k lk) ∙ elsewhere_renumbered (node_at p ours) (old_apart ours (node_count p)) (state_of q k) m) ∙ h

  module _ (s u : Snapshot) (view : IsView p q mine ours s u) where
    -- ---- what is held and present

    pub present_at : (k m : ℕ) → k < machine_count q → s.present (vm_at p mine k) (one (node_at p ours m)) ≡ u.present k (one m)
    present_at k m l = view.present k (one (node_at p ours m)) l ∙ ap (u.present k) (λ j n. old_apart ours (node_count p) n m j)

    pub held_one : (k m : ℕ) (w : Weight) → k < machine_count q → s.held (vm_at p mine k) w (one (node_at p ours m)) ≡ u.held k w (one m)
    held_one k m w l = view.held k w (one (node_at p ours m)) l ∙ ap (u.held k w) (λ j n. old_apart ours (node_count p) n m j)

    -- the same, at the numbers of the whole
    pub present_there : (v n : ℕ) → v < machine_count p → IsTrue (mine v) → n < node_count p → IsTrue (ours n) → s.present v (one n) ≡ u.present (new_number mine v) (one (new_number ours n))
    present_there v n lv mv ln on =
        ap₂ (λ (a b : ℕ). s.present a (one b)) (sym (vm_back v lv mv)) (sym (node_back n ln on)) ∙ present_at (new_number mine v) (new_number ours n) (vm_new v lv mv)

    -- what all machines hold on a set of the part's nodes
    pub total_agrees : (w : Weight) (set : Nodes) → ((n : ℕ) → IsTrue (set n) → IsTrue (ours n)) → total p s w set ≡ total q u w (λ n. set (node_at p ours n))
    total_agrees w set inside =
        sum_to-passing mine (λ v. s.held v w set) (λ k. machine_count p + k) (machine_count p) (λ v l out. view.others v w set l out inside)
        ∙ ap (λ (n : ℕ). sum_to n (λ k. s.held (vm_at p mine k) w set)) (sym e.machines)
        ∙ sum_to-same (machine_count q) _ _ (λ k l. view.held k w set l)

    pub powered_total : (set : Nodes) → ((n : ℕ) → IsTrue (set n) → IsTrue (ours n)) → powered_nodes p s set ≡ powered_nodes q u (λ n. set (node_at p ours n))
    powered_total set inside =
        sum_to-passing ours (λ n. one_if (set n) (s.powered n)) (λ k. node_count p + k) (node_count p) (λ n l out. not_there n out)
        ∙ ap (λ (n : ℕ). sum_to n (λ m. one_if (set (node_at p ours m)) (s.powered (node_at p ours m)))) (sym e.nodes)
        ∙ sum_to-same (node_count q) _ _ (λ m l. ap (one_if (set (node_at p ours m))) (view.powered m l))
      where
        not_there : (n : ℕ) → ours n ≡ false → one_if (set n) (s.powered n) ≡ 0
        not_there n out =
            elim (cases_Bool (set n)) [
              | inl there ↦ absurd (false≢true (sym out ∙ inside n there))
              | inr none ↦ rw none refl
            ]

    -- ---- from the whole to the part

    separation_down : (separation : Separation) → AreApart p s separation → AreApart q u (cut_separation mine separation)
    separation_down separation h = λ m k j lm lk lj sep here.
        sym (present_at j m lj) ∙ h (node_at p ours m) (vm_at p mine k) (vm_at p mine j) (node_in m lm) (vm_in k lk) (vm_in j lj) (apart_down separation k j lk lj sep) (present_at k m lk ∙ here)

    allowed_down : (vs : List VmId) (places : Places) → AreAllowed p s vs places → AreAllowed q u (cut_machines mine vs) (cut_places ours (node_count p) places)
    allowed_down vs places h = λ k m lk lm off.
        sym (present_at k m lk) ∙ h (vm_at p mine k) (node_at p ours m) (vm_in k lk) (node_in m lm) (sym (member_cut k lk vs) ∙ off.0, limits_down places k m lk lm off.1)

    absent_down : (vs : List VmId) → AreAbsent p s vs → AreAbsent q u (cut_machines mine vs)
    absent_down vs h = λ k m lk lm member.
        sym (present_at k m lk) ∙ h (vm_at p mine k) (node_at p ours m) (vm_in k lk) (node_in m lm) (sym (member_cut k lk vs) ∙ member)

    within_down : (vs : List VmId) (set few : Nodes) → ((m : ℕ) → m < node_count q → set (node_at p ours m) ≡ few m) → AreWithin p s vs set → AreWithin q u (cut_machines mine vs) few
    within_down vs set few same h = λ k m lk lm member here.
        sym (same m lm) ∙ h (vm_at p mine k) (node_at p ours m) (vm_in k lk) (node_in m lm) (sym (member_cut k lk vs) ∙ member) (present_at k m lk ∙ here)

    -- members that are all on a node of another part are not in this one
    away_down : (vs : List VmId) (x : ℕ) → ours x ≡ false → AreWithin p s vs (one x) → AreAbsent q u (cut_machines mine vs)
    away_down vs x out h = λ k m lk lm member.
        elim (cases_Bool (u.present k (one m))) [
          | inr none ↦ none
          | inl here ↦
              let same : (node_at p ours m == x) ≡ true = h (vm_at p mine k) (node_at p ours m) (vm_in k lk) (node_in m lm) (sym (member_cut k lk vs) ∙ member) (present_at k m lk ∙ here) in
              absurd (false≢true (sym out ∙ ap ours (sym (eqb-true _ _ same)) ∙ node_ours m lm))
        ]

    grouped_down : (vs : List VmId) (choices : Groups) → AreGrouped p s vs (group_sets p choices) → AreGrouped q u (cut_machines mine vs) (group_sets q (cut_choices ours (node_count p) choices))
    grouped_down vs choices (inl absent) = inl (absent_down vs absent)
    grouped_down vs AnyNode (inr h) =
        let x : ℕ = h.0 in
        let low : x < node_count p = subst (λ (n : ℕ). x < n) (length-map-range_with_len one 0 (node_count p)) h.2 in
        let is : one x ≡ h.1 = sym (get_or-map-range_with_len one 0 (node_count p) x x h.1 low (omega arith)) ∙ h.3 in
        let within : AreWithin p s vs (one x) = subst (λ (set : Nodes). AreWithin p s vs set) (sym is) h.4 in
        elim (cases_Bool (ours x)) [
          | inr out ↦ inl (away_down vs x out within)
          | inl in_part ↦
              let m : ℕ = new_number ours x in
              let lm : new_number ours x < node_count q = node_new x low in_part in
              inr (
                new_number ours x,
                one (new_number ours x),
                subst (λ (n : ℕ). new_number ours x < n) (sym (length-map-range_with_len one 0 (node_count q))) lm,
                get_or-map-range_with_len one 0 (node_count q) (new_number ours x) (new_number ours x) (one (new_number ours x)) lm (omega arith),
                within_down vs (one x) (one (new_number ours x)) (λ n ln. ap (λ (y : ℕ). node_at p ours n == y) (sym (node_back x low in_part)) ∙ old_apart ours (node_count p) n (new_number ours x)) within,
              )
        ]
    grouped_down vs (AnyOf sets) (inr h) =
        let low : h.0 < length sets = subst (λ (n : ℕ). h.0 < n) (length-map sets has_node) h.2 in
        let cut_at = mapped_item (cut_nodes ours (node_count p)) sets h.0 no_nodes no_nodes low in
        let long : length (map has_node (map (cut_nodes ours (node_count p)) sets)) ≡ length sets = length-map (map (cut_nodes ours (node_count p)) sets) has_node ∙ length-map sets (cut_nodes ours (node_count p)) in
        let is : has_node (slice_index_or sets h.0 no_nodes) ≡ h.1 = sym (mapped_item has_node sets h.0 no_nodes h.1 low) ∙ h.3 in
        let chosen : NodeSet = cut_nodes ours (node_count p) (slice_index_or sets h.0 no_nodes) in
        inr (
          h.0,
          has_node (cut_nodes ours (node_count p) (slice_index_or sets h.0 no_nodes)),
          subst (λ (n : ℕ). h.0 < n) (sym long) low,
          mapped_item has_node (map (cut_nodes ours (node_count p)) sets) h.0 no_nodes (has_node (cut_nodes ours (node_count p) (slice_index_or sets h.0 no_nodes))) (subst (λ (n : ℕ). h.0 < n) (sym (length-map sets (cut_nodes ours (node_count p)))) low) ∙ ap has_node cut_at,
          within_down vs (has_node (slice_index_or sets h.0 no_nodes)) (has_node (cut_nodes ours (node_count p) (slice_index_or sets h.0 no_nodes)))
              (λ m lm. sym (node_agrees ours (node_count p) e.few (slice_index_or sets h.0 no_nodes) m (counted_node m lm)))
              (subst (λ (set : Nodes). AreWithin p s vs set) (sym is) h.4),
        )

    turns_down : (vs : List VmId) → TakeTurns p s vs → TakeTurns q u (cut_machines mine vs)
    turns_down vs h = λ k j lk lj other mk mj acts.
        sym (view.action j Acting lj)
        ∙ h (vm_at p mine k) (vm_at p mine j) (vm_in k lk) (vm_in j lj) (λ same. other (same_new mine (machine_count p) k j same)) (sym (member_cut k lk vs) ∙ mk) (sym (member_cut j lj vs) ∙ mj) (view.action k Acting lk ∙ acts)

    -- ---- from the part to the whole

    -- a member that is in the part is absent off it
    off_part : (v n : ℕ) → v < machine_count p → IsTrue (mine v) → n < node_count p → IsTrue (s.present v (one n)) → IsTrue (ours n)
    off_part v n lv mv ln here =
        elim (cases_Bool (ours n)) [
          | inl on ↦ on
          | inr out ↦ absurd (false≢true (sym (view.elsewhere_absent v n lv mv ln out) ∙ here))
        ]

    separation_up : (separation : Separation) → ((v : ℕ) → IsMember (separated separation) v → IsTrue (mine v)) → AreApart q u (cut_separation mine separation) → AreApart p s separation
    separation_up separation inside h = λ n v w ln lv lw sep here.
        let mv : IsTrue (mine v) = inside v (separated_member separation v w sep) in
        let on : IsTrue (ours n) = off_part v n lv mv ln here in
        elim (cases_Bool (mine w)) [
          | inr out ↦ view.others_absent w (one n) lw out (λ x same. subst (λ (y : ℕ). IsTrue (ours y)) (sym (eqb-true x n same)) on)
          | inl mw ↦
              present_there w n lw mw ln on
              ∙ h (new_number ours n) (new_number mine v) (new_number mine w) (node_new n ln on) (vm_new v lv mv) (vm_new w lw mw)
              (apart_up separation (new_number mine v) (new_number mine w) (vm_new v lv mv) (vm_new w lw mw) (subst (λ (x : ℕ). Separates separation x (vm_at p mine (new_number mine w))) (sym (vm_back v lv mv)) (subst (λ (x : ℕ). Separates separation v x) (sym (vm_back w lw mw)) sep)))
              (sym (present_there v n lv mv ln on) ∙ here)
        ]

    pub allowed_up : (vs : List VmId) (places : Places) → AreAllowed q u (cut_machines mine vs) (cut_places ours (node_count p) places) → (v n : ℕ) → v < machine_count p → n < node_count p → IsTrue (mine v) → IsMember vs v × IsOffLimits p places v n → s.present v (one n) ≡ false
    allowed_up vs places h v n lv ln mv off =
        elim (cases_Bool (ours n)) [
          | inr out ↦ view.elsewhere_absent v n lv mv ln out
          | inl on ↦
              let here : IsMember vs (vm_at p mine (new_number mine v)) × IsOffLimits p places (vm_at p mine (new_number mine v)) (node_at p ours (new_number ours n)) =
              subst (λ (x : ℕ). IsMember vs x × IsOffLimits p places x (node_at p ours (new_number ours n))) (sym (vm_back v lv mv)) (subst (λ (y : ℕ). IsMember vs v × IsOffLimits p places v y) (sym (node_back n ln on)) off) in
              present_there v n lv mv ln on
              ∙ h (new_number mine v) (new_number ours n) (vm_new v lv mv) (node_new n ln on)
              (member_cut (new_number mine v) (vm_new v lv mv) vs ∙ here.0, limits_up places (new_number mine v) (new_number ours n) (vm_new v lv mv) (node_new n ln on) here.1)
        ]

    -- a member of a list, by its new number
    member_new : (vs : List VmId) (v : ℕ) → v < machine_count p → IsTrue (mine v) → IsMember vs v → IsMember (cut_machines mine vs) (new_number mine v)
    member_new vs v lv mv member = member_cut (new_number mine v) (vm_new v lv mv) vs ∙ ap (is_member vs) (vm_back v lv mv) ∙ member

    absent_up : (vs : List VmId) → ((v : ℕ) → IsMember vs v → IsTrue (mine v)) → AreAbsent q u (cut_machines mine vs) → AreAbsent p s vs
    absent_up vs inside h = λ v n lv ln member.
        let mv : IsTrue (mine v) = inside v member in
        elim (cases_Bool (ours n)) [
          | inr out ↦ view.elsewhere_absent v n lv mv ln out
          | inl on ↦ present_there v n lv mv ln on ∙ h (new_number mine v) (new_number ours n) (vm_new v lv mv) (node_new n ln on) (member_new vs v lv mv member)
        ]

    within_up : (vs : List VmId) → ((v : ℕ) → IsMember vs v → IsTrue (mine v)) → (set few : Nodes) → ((m : ℕ) → m < node_count q → set (node_at p ours m) ≡ few m) → AreWithin q u (cut_machines mine vs) few → AreWithin p s vs set
    within_up vs inside set few same h = λ v n lv ln member here.
        let mv : IsTrue (mine v) = inside v member in
        let on : IsTrue (ours n) = off_part v n lv mv ln here in
        ap set (sym (node_back n ln on)) ∙ same (new_number ours n) (node_new n ln on)
        ∙ h (new_number mine v) (new_number ours n) (vm_new v lv mv) (node_new n ln on) (member_new vs v lv mv member) (sym (present_there v n lv mv ln on) ∙ here)

    grouped_up : (vs : List VmId) → ((v : ℕ) → IsMember vs v → IsTrue (mine v)) → (choices : Groups) → AreGrouped q u (cut_machines mine vs) (group_sets q (cut_choices ours (node_count p) choices)) → AreGrouped p s vs (group_sets p choices)
    grouped_up vs inside choices (inl absent) = inl (absent_up vs inside absent)
    grouped_up vs inside AnyNode (inr h) =
        let m : ℕ = h.0 in
        let low : m < node_count q = subst (λ (n : ℕ). m < n) (length-map-range_with_len one 0 (node_count q)) h.2 in
        let is : one m ≡ h.1 = sym (get_or-map-range_with_len one 0 (node_count q) m m h.1 low (omega arith)) ∙ h.3 in
        inr (
          node_at p ours m,
          one (node_at p ours m),
          subst (λ (n : ℕ). node_at p ours m < n) (sym (length-map-range_with_len one 0 (node_count p))) (node_in m low),
          get_or-map-range_with_len one 0 (node_count p) (node_at p ours m) (node_at p ours m) (one (node_at p ours m)) (node_in m low) (omega arith),
          within_up vs inside (one (node_at p ours m)) (one m) (λ n ln. old_apart ours (node_count p) n m) (subst (λ (set : Nodes). AreWithin q u (cut_machines mine vs) set) (sym is) h.4),
        )
    grouped_up vs inside (AnyOf sets) (inr h) =
        let long : length (map has_node (map (cut_nodes ours (node_count p)) sets)) ≡ length sets = length-map (map (cut_nodes ours (node_count p)) sets) has_node ∙ length-map sets (cut_nodes ours (node_count p)) in
        let low : h.0 < length sets = subst (λ (n : ℕ). h.0 < n) long h.2 in
        let cut_at = mapped_item (cut_nodes ours (node_count p)) sets h.0 no_nodes no_nodes low in
        let is : has_node (cut_nodes ours (node_count p) (slice_index_or sets h.0 no_nodes)) ≡ h.1 =
        sym (mapped_item has_node (map (cut_nodes ours (node_count p)) sets) h.0 no_nodes h.1 (subst (λ (n : ℕ). h.0 < n) (sym (length-map sets (cut_nodes ours (node_count p)))) low) ∙ ap has_node cut_at) ∙ h.3 in
        inr (
          h.0,
          has_node (slice_index_or sets h.0 no_nodes),
          subst (λ (n : ℕ). h.0 < n) (sym (length-map sets has_node)) low,
          mapped_item has_node sets h.0 no_nodes (has_node (slice_index_or sets h.0 no_nodes)) low,
          within_up vs inside (has_node (slice_index_or sets h.0 no_nodes)) (has_node (cut_nodes ours (node_count p) (slice_index_or sets h.0 no_nodes)))
              (λ m lm. sym (node_agrees ours (node_count p) e.few (slice_index_or sets h.0 no_nodes) m (counted_node m lm)))
              (subst (λ (set : Nodes). AreWithin q u (cut_machines mine vs) set) (sym is) h.4),
        )

    turns_up : (vs : List VmId) → ((v : ℕ) → IsMember vs v → IsTrue (mine v)) → TakeTurns q u (cut_machines mine vs) → TakeTurns p s vs
    turns_up vs inside h = λ v w lv lw other mv mw acts.
        let iv : IsTrue (mine v) = inside v mv in
        let iw : IsTrue (mine w) = inside w mw in
        action_there w Acting lw iw
        ∙ h (new_number mine v) (new_number mine w) (vm_new v lv iv) (vm_new w lw iw) (λ same. other (sym (vm_back v lv iv) ∙ ap (vm_at p mine) same ∙ vm_back w lw iw)) (member_new vs v lv iv mv) (member_new vs w lw iw mw) (sym (action_there v Acting lv iv) ∙ acts)
      where
        action_there : (v : ℕ) (far : Progress) → v < machine_count p → IsTrue (mine v) → s.action v far ≡ u.action (new_number mine v) far
        action_there v far lv iv = ap (λ (x : ℕ). s.action x far) (sym (vm_back v lv iv)) ∙ view.action (new_number mine v) far (vm_new v lv iv)

    -- ---- by form

    -- a joint form that is inside the part is kept in the one exactly where it is in the other
    pub kept_down : (f : Form) → IsInside p mine ours f → IsKept p s f → IsKept q u (cut_form mine ours (node_count p) f)
    kept_down (Apart separation) inside h = separation_down separation h
    kept_down (Allowed vs places) inside h = allowed_down vs places h
    kept_down (Together vs choices) inside h = grouped_down vs choices h
    kept_down (Ordered before after) inside h = λ started. sym (acts before Unended (or_left _ _ (eq-eqb before.0 before.0 refl))) ∙ h (acts after Started (or_right (before.0 == after.0) _ (or_left _ _ (eq-eqb after.0 after.0 refl))) ∙ started)
      where
        acts : (x : VmId) (far : Progress) → IsMember (before ∷ after ∷ []) x.0 → s.action x.0 far ≡ u.action (new_number mine x.0) far
        acts x far member =
            let l : x.0 < machine_count p = member_below (machine_count p) (before ∷ after ∷ []) x.0 inside.listed member in
            let m : IsTrue (mine x.0) = inside.machines x.0 member in
            ap (λ (y : ℕ). s.action y far) (sym (vm_back x.0 l m)) ∙ view.action (new_number mine x.0) far (vm_new x.0 l m)
    kept_down (InTurn vs) inside h = turns_down vs h
    kept_down (Bounded weight ns amount) inside h =
        let within = inside.nodes ns 0 (omega arith) refl in
        subst (λ (n : ℕ). n ≤ amount) (total_agrees weight (has_node ns) within ∙ ap (total q u weight) (λ j m. set_cut ns within m j)) h
    kept_down (Powered ns amount) inside h =
        let within = inside.nodes ns 0 (omega arith) refl in
        subst (λ (n : ℕ). n ≤ amount) (powered_total (has_node ns) within ∙ ap (powered_nodes q u) (λ j m. set_cut ns within m j)) h
    kept_down Settled inside h = tt

    pub kept_up : (f : Form) → is_joint f ≡ true → IsInside p mine ours f → IsKept q u (cut_form mine ours (node_count p) f) → IsKept p s f
    kept_up (Apart separation) joint inside h = separation_up separation inside.machines h
    kept_up (Allowed vs places) joint inside h = absurd (false≢true joint)
    kept_up (Together vs choices) joint inside h = grouped_up vs inside.machines choices h
    kept_up (Ordered before after) joint inside h = λ started. acts before Unended (or_left _ _ (eq-eqb before.0 before.0 refl)) ∙ h (sym (acts after Started (or_right (before.0 == after.0) _ (or_left _ _ (eq-eqb after.0 after.0 refl)))) ∙ started)
      where
        acts : (x : VmId) (far : Progress) → IsMember (before ∷ after ∷ []) x.0 → s.action x.0 far ≡ u.action (new_number mine x.0) far
        acts x far member =
            let l : x.0 < machine_count p = member_below (machine_count p) (before ∷ after ∷ []) x.0 inside.listed member in
            let m : IsTrue (mine x.0) = inside.machines x.0 member in
            ap (λ (y : ℕ). s.action y far) (sym (vm_back x.0 l m)) ∙ view.action (new_number mine x.0) far (vm_new x.0 l m)
    kept_up (InTurn vs) joint inside h = turns_up vs inside.machines h
    kept_up (Bounded weight ns amount) joint inside h =
        let within = inside.nodes ns 0 (omega arith) refl in
        subst (λ (n : ℕ). n ≤ amount) (sym (total_agrees weight (has_node ns) within ∙ ap (total q u weight) (λ j m. set_cut ns within m j))) h
    kept_up (Powered ns amount) joint inside h =
        let within = inside.nodes ns 0 (omega arith) refl in
        subst (λ (n : ℕ). n ≤ amount) (sym (powered_total (has_node ns) within ∙ ap (powered_nodes q u) (λ j m. set_cut ns within m j))) h
    kept_up Settled joint inside h = absurd (false≢true joint)

    pub unjoint_down : (f : Form) → is_joint f ≡ false → IsKept p s f → IsKept q u (cut_form mine ours (node_count p) f)
    unjoint_down (Apart separation) apart h = absurd (true≢false apart)
    unjoint_down (Allowed vs places) apart h = allowed_down vs places h
    unjoint_down (Together vs choices) apart h = absurd (true≢false apart)
    unjoint_down (Ordered before after) apart h = absurd (true≢false apart)
    unjoint_down (InTurn vs) apart h = absurd (true≢false apart)
    unjoint_down (Bounded weight ns amount) apart h = absurd (true≢false apart)
    unjoint_down (Powered ns amount) apart h = absurd (true≢false apart)
    unjoint_down Settled apart h = tt
