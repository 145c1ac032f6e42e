-- What a part gets of a constraint that speaks of each machine and node by itself, where lists and sets are dealt to all parts at once.
use Rattle.base.proofs.Public.{◌≡◌, inl, inr, ℕ, ◌+◌, ◌<◌, ◌≤◌, Bool, true, false, ◌&&◌, ◌==◌, List, [], ◌∷◌, ◌++◌, length, map, filter, fold, Some, None, if◌then◌else◌, refl, sym, ap, ◌∙◌, append_assoc, and-false, arith, cases_Bool, cases_eq, eq-eqb, false≢true, filter-append, fold-append, get_or, get_or-set_other, get_or-set_same, map-append, ne_eqb, range_more, range_with_len, set, take, take_more}
use Rattle.cluster.specs.declared.ids.VmId.{VmId}
use Rattle.cluster.specs.declared.sets.NodeSet.{NodeSet}
use Rattle.catalogue.specs.Prelude.{has_node, no_nodes}
use Rattle.catalogue.specs.declared.constraint.Constraint.{Constraint}
use Rattle.catalogue.specs.declared.constraint.Constraint.TheVariants.{Spread, Ban, Fence, Gather, Lonely, Among, Split, Root, Precedence, Serialize, Preserve, ResourceCapacity, RunningCapacity, MaxOnline, Overbook, Online, Offline, Running as WantedRunning, Sleeping as WantedSleeping, Ready as WantedReady, Killed}
use Rattle.slices.specs.Forms.{Form, form_of}
use Rattle.parts.specs.Splits.{is_joint}
use Rattle.partition.specs.declared.faults.Division.{Division}
use Rattle.partition.specs.declared.numbering.Numbers.{Numbers}
use Rattle.partition.specs.Cutting.{cut_by, cut_node, home_by, listed_machines, listed_nodes, machines_by, nodes_by, numbered, with_lists, with_one}
use Rattle.partition.specs.Reach.{at, first_of, form_reach}

-- one without a home speaks of each by itself
pub not_joint : (d : Division) (f : Form) → home_by d f ≡ None → is_joint f ≡ false
not_joint d f none = by (is_joint f) refl
  where
    clash : (h : ℕ) → Some h ≡ None → ⊥
    clash h e = cc e

    by : (b : Bool) → is_joint f ≡ b → is_joint f ≡ false
    by false e = e
    by true e = absurd (clash (first_of (form_reach d.machines.items d.nodes.items f)) (sym (ap (λ (b : Bool). if b then Some (first_of (form_reach d.machines.items d.nodes.items f)) else None) e) ∙ none))

-- ---- what a part gets of it

module _ (d : Division) (numbers : Numbers) (i : ℕ) where
  abbrev mine : Constraint → List VmId
  mine c = machines_by d.machines.items numbers.machines.items i (listed_machines c)

  abbrev ours : Constraint → NodeSet
  ours c = nodes_by d.nodes.items numbers.nodes.items i (listed_nodes c)

  pub alone_as : (c : Constraint) → is_joint (form_of c) ≡ false → with_lists (λ _. mine c) (λ _. ours c) (λ v. v) c ≡ cut_by d numbers i c
  alone_as (Spread vs b) alone = absurd (false≢true (sym alone))
  alone_as (Ban vs ns b) alone = refl
  alone_as (Fence vs ns b) alone = refl
  alone_as (Gather vs b) alone = absurd (false≢true (sym alone))
  alone_as (Lonely vs b) alone = absurd (false≢true (sym alone))
  alone_as (Among vs sets b) alone = absurd (false≢true (sym alone))
  alone_as (Split parts b) alone = absurd (false≢true (sym alone))
  alone_as (Root vs) alone = refl
  alone_as (Precedence before after) alone = absurd (false≢true (sym alone))
  alone_as (Serialize vs) alone = absurd (false≢true (sym alone))
  alone_as (Preserve vs r amount) alone = refl
  alone_as (ResourceCapacity ns r amount b) alone = absurd (false≢true (sym alone))
  alone_as (RunningCapacity ns amount b) alone = absurd (false≢true (sym alone))
  alone_as (MaxOnline ns amount b) alone = absurd (false≢true (sym alone))
  alone_as (Overbook ns r num den) alone = refl
  alone_as (Online ns) alone = refl
  alone_as (Offline ns) alone = refl
  alone_as (WantedRunning vs) alone = refl
  alone_as (WantedSleeping vs) alone = refl
  alone_as (WantedReady vs) alone = refl
  alone_as (Killed vs) alone = refl

-- ---- one machine or node more

module _ (groups numbers : List ℕ) (j : ℕ) where
  one_machine : (v : VmId) → machines_by groups numbers j (v ∷ []) ≡ (if at groups v.0 == j then numbered numbers v ∷ [] else [])
  one_machine v = elim (cases_Bool (at groups v.0 == j)) [ inl pass ↦ rw pass refl | inr fail ↦ rw fail refl ]

  pub machine_dealt : (vs : List VmId) (k : ℕ) (v : VmId) (old now new : List VmId) → k < length vs → v ≡ get_or vs k v → now ≡ old ++ machines_by groups numbers j (take k vs) →
      new ≡ now ++ (if at groups v.0 == j then numbered numbers v ∷ [] else []) → new ≡ old ++ machines_by groups numbers j (take (k + 1) vs)
  machine_dealt vs k v old now new l here was is =
      let front = take k vs in
      is ∙ ap (λ (l : List VmId). now ++ l) (sym (one_machine v)) ∙ ap (λ (l : List VmId). l ++ machines_by groups numbers j (v ∷ [])) was ∙
      append_assoc old (machines_by groups numbers j front) (machines_by groups numbers j (v ∷ [])) ∙
      ap (λ (l : List VmId). old ++ l) (sym (
      ap (machines_by groups numbers j) (take_more vs k v l ∙ ap (λ (x : VmId). front ++ x ∷ []) (sym here)) ∙
      ap (map (numbered numbers)) (filter-append (λ x. at groups x.0 == j) front (v ∷ [])) ∙
      map-append (numbered numbers) (filter (λ x. at groups x.0 == j) front) (filter (λ x. at groups x.0 == j) (v ∷ []))))

  module _ (from : NodeSet) where
    pub node_dealt : (n : ℕ) (now new : NodeSet) → now ≡ fold (cut_node groups numbers j from) no_nodes (range_with_len 0 n) → new ≡ cut_node groups numbers j from now n →
        new ≡ fold (cut_node groups numbers j from) no_nodes (range_with_len 0 (n + 1))
    node_dealt n now new was is =
        is ∙ ap (λ (s : NodeSet). cut_node groups numbers j from s n) was ∙
        sym (ap (fold (cut_node groups numbers j from) no_nodes) (range_more n) ∙ fold-append (cut_node groups numbers j from) no_nodes (range_with_len 0 n) (n ∷ []))

    -- a node that is not in the set, or whose group has no set
    pub node_skipped : (n : ℕ) (cut : NodeSet) → has_node from n ≡ false → cut ≡ cut_node groups numbers j from cut n
    node_skipped n cut outside = rw outside refl

    pub node_far : (n count : ℕ) (cut : NodeSet) → count ≤ at groups n → j < count → cut ≡ cut_node groups numbers j from cut n
    node_far n count cut far l =
        let other : (at groups n == j) ≡ false = ne_eqb _ _ (λ e. absurd (omega (arith, e, far, l))) in
        ap (λ (b : Bool). if b then with_one cut (at numbers n) else cut) (sym (ap (λ (b : Bool). has_node from n && b) other ∙ and-false (has_node from n)))

    pub node_put : (sets : List NodeSet) (n : ℕ) → has_node from n ≡ true → at groups n < length sets → (new : NodeSet) → new ≡ with_one (get_or sets (at groups n) no_nodes) (at numbers n) →
        get_or (set sets (at groups n) new) j no_nodes ≡ cut_node groups numbers j from (get_or sets j no_nodes) n
    node_put sets n inside l new is =
        elim (cases_eq (at groups n) j) [
          | inl same ↦
              ap (λ (k : ℕ). get_or (set sets (at groups n) new) k no_nodes) (sym same) ∙ get_or-set_same sets (at groups n) new no_nodes l ∙ is ∙
              ap (λ (k : ℕ). with_one (get_or sets k no_nodes) (at numbers n)) same ∙
              ap (λ (b : Bool). if b then with_one (get_or sets j no_nodes) (at numbers n) else get_or sets j no_nodes) (sym (ap (λ (b : Bool). b && (at groups n == j)) inside ∙ eq-eqb _ _ same))
          | inr other ↦
              get_or-set_other sets (at groups n) j new no_nodes (λ e. other (sym e)) ∙
              ap (λ (b : Bool). if b then with_one (get_or sets j no_nodes) (at numbers n) else get_or sets j no_nodes) (sym (ap (λ (b : Bool). b && (at groups n == j)) inside ∙ ne_eqb _ _ other))
        ]
