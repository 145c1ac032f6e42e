-- Members that are told to be together.
use Rattle.rule_group.proofs.Prelude.{All, arith, Bool, cases_eq, Contains, end_is_choice, ends_of_rows, eqb-true, false, false≢true, get_or, get_or-map, get_or-map-range_with_len, inl, inr, IsTrue, length, length-map, length-map-range_with_len, List, map, not, or_cases, other-vm, range_with_len, refl, row_end, setting_sets, Some, some_end, slice_index_or, sound_form, subst, surely_each, sym, true, ◌==◌, ◌||◌, ◌<◌, ◌∙◌, ◌∷◌, ◌⊎◌, ◌≡◌, ◌≢◌, ℕ, []}
use Rattle.rule_group.specs.Prelude.{Act, AnyNode, AnyOf, AnyPlace, are_below, AreCommon, AreNodesOf, AreScattered, AreSpots, Choice, choices, Climbs, Constraint, DomainView, Element, FitsAt, FitsMember, Form, form_of, Group, group_count, group_nodes, group_sets, Groups, has_node, HasOutside, Idle, Instance, inventory_of, is_continuous, is_member, is_rule, IsAtOne, IsClean, IsDue, IsEnd, IsFound, IsHad, IsInside, IsInstance, IsMember, IsServed, machine_count, members, never, no_row, node_count, Node as TheNode, NodeId, Nodes, NodeSet, of_kind, one, present_at, reason_kind, Row, row_at, rule_watch, Sets, setting, Snapshot, Spots, sure, Together, Vm, vm, VmId}
use Rattle.cluster.specs.Sets.{no_nodes}
use Rattle.rule_group.proofs.SpotLemmas.{inside_by_spots}

-- ---- the ends of choices

at-row : (P : Choice → Type 0) (q place : AnyPlace) (s start : ℕ) → place ≡ q → start ≡ s → P (Act place start) → P (Act q s)
at-row P q place s start same at h = rw (← same, ← at) h

-- what holds of both ends of each row, and of Idle where that is a choice, holds of each end
pub each_end : (P : Choice → Type 0) (d : DomainView) (rows : List Row) → rows ≡ d.rows → Climbs 0 rows → (d.idle ≡ true → P Idle) → ((i : ℕ) → i < length rows → P (Act (slice_index_or rows i no_row).place (slice_index_or rows i no_row).lo)) → ((i : ℕ) → i < length rows → P (Act (slice_index_or rows i no_row).place (slice_index_or rows i no_row).hi)) → (c : Choice) → IsEnd (choices d) c → P c
each_end P d rows same climbs idle low high Idle end = idle ((ends_of_rows d (rw same at climbs) Idle).0 end)
each_end P d rows same climbs idle low high (Act q s) end =
    let r = (ends_of_rows d (rw same at climbs) (Act q s)).0 end in
    elim r.3 [
      | inl first ↦ at-row P q (row_at d r.0).place s (row_at d r.0).lo r.2 first ((rw same at low) r.0 r.1)
      | inr last ↦ at-row P q (row_at d r.0).place s (row_at d r.0).hi r.2 last ((rw same at high) r.0 r.1)
    ]

-- ---- one choice

pub found_by : (p : Instance) (cs : List Choice) (a : Bool) (v : ℕ) (c : Choice) (groups : Groups) (among : NodeSet) (x : Spots) (i : ℕ) → IsInstance p → p.horizon < never → Contains cs c → AreSpots p a v c x → IsServed p groups among x i → IsFound p cs a v groups among i
found_by p cs a v c groups among x i sound short there spots served = record {
  listed = served.listed;
  may = record { choice = c; there = there; inside = inside_by_spots p a v c (group_nodes groups i) x sound short spots served.has };
}

pub idle_there : (d : DomainView) → Climbs 0 d.rows → d.idle ≡ true → Contains (choices d) Idle
idle_there d climbs idle = end_is_choice (choices d) Idle ((ends_of_rows d climbs Idle).1 idle)

pub row_there : (d : DomainView) (rows : List Row) (i : ℕ) → rows ≡ d.rows → Climbs 0 rows → i < length d.rows → Contains (choices d) (Act (slice_index_or rows i no_row).place (slice_index_or rows i no_row).lo)
row_there d rows i same climbs low = end_is_choice (choices d) _ (row_end d rows i same climbs (rw same low))

pub fits_at : (p : Instance) (a : Bool) (v : ℕ) (c : Choice) (groups : Groups) (common : NodeSet) (x : Spots) → IsInstance p → p.horizon < never → AreSpots p a v c x → (i : ℕ) × IsServed p groups common x i → FitsAt p a groups common v c
fits_at p a v c groups common x sound short spots served =
    record { group = served.0; listed = served.1.listed; inside = inside_by_spots p a v c (group_nodes groups served.0) x sound short spots served.1.has }

pub fits_member : (p : Instance) (s : Sets) (a : Bool) (groups : Groups) (common : NodeSet) (v : ℕ) (d : DomainView) (rows : List Row) → s (vm v) ≡ choices d → choices d ≢ [] → rows ≡ d.rows → Climbs 0 rows → (d.idle ≡ true → FitsAt p a groups common v Idle) → ((i : ℕ) → i < length rows → FitsAt p a groups common v (Act (slice_index_or rows i no_row).place (slice_index_or rows i no_row).lo)) → ((i : ℕ) → i < length rows → FitsAt p a groups common v (Act (slice_index_or rows i no_row).place (slice_index_or rows i no_row).hi)) → FitsMember p s a groups common v
fits_member p s a groups common v d rows is some same climbs idle low high =
    record { some = rw is some; ends = λ c end. each_end (FitsAt p a groups common v) d rows same climbs idle low high c (rw is at end) }

-- one more is put into a set of numbers
pub more_served : (P : ℕ → Type 0) (found new : NodeSet) (i : ℕ) → ((m : ℕ) → has_node new m ≡ ((m == i) || has_node found m)) → ((j : ℕ) → IsTrue (has_node found j) → P j) → P i → (j : ℕ) → IsTrue (has_node new j) → P j
more_served P found new i is before here j h =
    elim (or_cases (j == i) (has_node found j) (sym (is j) ∙ h)) [
      | inl same ↦ subst P (sym (eqb-true j i same)) here
      | inr old ↦ before j old
    ]

-- a group that has the one node on which a machine may be has the node
pub had_by_served : (p : Instance) (groups : Groups) (among : NodeSet) (x : Spots) (n : NodeId) (i : ℕ) → x.place ≡ Some n → IsServed p groups among x i → IsHad p groups among n.0
had_by_served p groups among x n i place served = record { group = i; listed = served.listed; count = served.count; has = rw place at served.has.place }

-- one node more is put into a set of nodes
pub more_had : (P : ℕ → Type 0) (old new : NodeSet) (n : ℕ) → ((m : ℕ) → has_node new m ≡ ((m == n) || has_node old m)) → P n → (m : ℕ) → IsTrue (has_node new m) → IsTrue (has_node old m) ⊎ P m
more_had P old new n is here m h =
    elim (or_cases (m == n) (has_node old m) (sym (is m) ∙ h)) [
      | inl same ↦ inr (subst P (sym (eqb-true m n same)) here)
      | inr before ↦ inl before
    ]

-- a machine on one node alone is served by a group that has it
pub served_at_one : (p : Instance) (groups : Groups) (among nodes : NodeSet) (x : Spots) → AreNodesOf p groups among nodes → IsAtOne nodes x → (i : ℕ) × IsServed p groups among x i
served_at_one p groups among nodes x are at =
    let had = are.each at.node.0 at.listed in
    (had.group, record { listed = had.listed; count = had.count; has = record { host = rw at.host tt; place = rw at.place had.has } })

-- the members of a constraint without a fault are listed
pub listed_members : (p : Instance) (k : Constraint) (f : Form) → form_of k ≡ f → is_rule (inventory_of p) k ≡ true → are_below (machine_count p) (members f) ≡ true
listed_members p k f is rule = rw is at (sound_form p k rule).listed

-- ---- groups by their numbers

all-at : (p : Instance) (groups : Groups) (i : ℕ) (P : Nodes → Type 0) → i < group_count p groups → All P (group_sets p groups) → P (group_nodes groups i)
all-at p AnyNode i P low h =
    let count : length (map one (range_with_len 0 (node_count p))) ≡ node_count p = length-map-range_with_len one 0 (node_count p) in
    let there : get_or (map one (range_with_len 0 (node_count p))) i (λ _. false) ≡ one i = get_or-map-range_with_len one 0 (node_count p) i i (λ _. false) low (omega arith) in
    rw there at (h i (λ _. false) (omega (arith, count, low)))
all-at p (AnyOf groups) i P low h =
    let count : length (map has_node groups) ≡ length groups = length-map groups has_node in
    let there : get_or (map has_node groups) i (has_node no_nodes) ≡ has_node (get_or groups i no_nodes) = get_or-map has_node groups i no_nodes (has_node no_nodes) low in
    rw there at (h i (has_node no_nodes) (omega (arith, count, low)))

some-outside : (b : Snapshot) (vs : List VmId) (groups : List Nodes) → groups ≢ [] → All (HasOutside b vs) groups → (v : ℕ) × IsMember vs v
some-outside b vs [] some h = absurd (some refl)
some-outside b vs (g ∷ groups) some h = let x = h 0 g (omega arith) in (x.0, x.1)

-- ---- the constraint

module _ (p : Instance) (s : Sets) (k : Constraint) (a : Bool) (vs : List VmId) (groups : Groups) (common : NodeSet) (are : AreCommon p s a groups vs common) (fit : (v : ℕ) → IsMember vs v → FitsMember p s a groups common v) where
  surely-in : (i t w : ℕ) → IsTrue (has_node common i) → IsDue p a t → IsMember vs w → IsTrue ((sure p s t).present w (λ n. not (group_nodes groups i n))) → ⊥
  unfolding sure
  surely-in i t w here due m present =
      let x = are.each i here w m in
      false≢true (sym (x.inside.inside t due) ∙ surely_each (present_at p w (λ n. not (group_nodes groups i n)) t) (s (vm w)) x.choice x.there present)

  not-scattered : (b : Snapshot) (i : ℕ) → i < group_count p groups → ((w : ℕ) → IsMember vs w → ¬ IsTrue (b.present w (λ n. not (group_nodes groups i n)))) → ¬ AreScattered b vs (group_sets p groups)
  not-scattered b i low none h = let x = all-at p groups i (HasOutside b vs) low h.each in none x.0 x.1 x.2

  -- members are as they surely are
  as-sure : (b : Snapshot) (t : ℕ) → IsDue p a t → ((w : ℕ) → IsMember vs w → (set : Nodes) → b.present w set ≡ (sure p s t).present w set) → ¬ AreScattered b vs (group_sets p groups)
  as-sure b t due same h =
      let w = some-outside b vs (group_sets p groups) h.some h.each in
      let end = some_end (s (vm w.0)) (fit w.0 w.1).some in
      let at = (fit w.0 w.1).ends end.0 end.1 in
      not-scattered b at.group (are.count at.group at.listed) (λ v m present. surely-in at.group t v at.listed due m (sym (same v m (λ n. not (group_nodes groups at.group n))) ∙ present)) h

  -- one is set to an end
  with-member : (v t : ℕ) (c : Choice) → IsDue p a t → IsMember vs v → IsEnd (s (vm v)) c → ¬ AreScattered (sure p (setting (vm v) c s) t) vs (group_sets p groups)
  with-member v t c due m end h =
      let at = (fit v m).ends c end in
      not-scattered (sure p (setting (vm v) c s) t) at.group (are.count at.group at.listed) (λ w there present. by w at.group at.listed at.inside there present (cases_eq w v)) h
    where
      by : (w i : ℕ) → IsTrue (has_node common i) → IsInside p a v (group_nodes groups i) c → IsMember vs w → IsTrue ((sure p (setting (vm v) c s) t).present w (λ n. not (group_nodes groups i n))) → (w ≡ v) ⊎ (w ≢ v) → ⊥
      by w i here inside there present (inl same) =
          let own = ((setting_sets p s (vm v) c t).set_machine v refl).present (λ n. not (group_nodes groups i n)) in
          false≢true (sym (inside.inside t due) ∙ (sym own ∙ (rw same at present)))
      by w i here inside there present (inr other) =
          let stays = ((setting_sets p s (vm v) c t).other_machines w (other-vm w v other)).present (λ n. not (group_nodes groups i n)) in
          surely-in i t w here due there (sym stays ∙ present)

  with-end : (e : Element) (t : ℕ) (c : Choice) → IsDue p a t → IsEnd (s e) c → ¬ AreScattered (sure p (setting e c s) t) vs (group_sets p groups)
  with-end (TheNode n) t c due end h = as-sure (sure p (setting (TheNode n) c s) t) t due (λ w m set. ((setting_sets p s (TheNode n) c t).other_machines w (λ e. cc)).present set) h
  with-end (Vm v) t c due end h = by (is_member vs v.0) refl
    where
      by : (b : Bool) → is_member vs v.0 ≡ b → ⊥
      by true m = with-member v.0 t c due m end h
      by false none =
          as-sure (sure p (setting (Vm v) c s) t) t due
          (λ w m set. ((setting_sets p s (Vm v) c t).other_machines w (other-vm w v.0 (λ same. false≢true (sym none ∙ (rw same at m))))).present set)
          h

  pub together_clean : is_continuous k ≡ a → form_of k ≡ Together vs groups → IsClean (rule_watch p k) p s
  together_clean due is t l = record {
    base = λ x. let h = of_kind p (sure p s t) Group k kind x.1 in as-sure (sure p s t) t (l, rw due at x.0) (λ w m set. refl) (rw is at h);
    ends = λ e c there end x. let h = of_kind p (sure p (setting e c s) t) Group k kind x.1 in with-end e t c (l, rw due at x.0) end (rw is at h);
  }
    where
      kind : reason_kind k ≡ Some Group
      kind = rw is refl
