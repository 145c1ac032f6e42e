-- Plans of all parts, and a plan of the whole that they fit: what is where in a part is what is where in the whole.
use Rattle.std.proofs.Common.{IsTrue}
use Rattle.base.proofs.Public.{Bool, ◌≡◌, ◌⊎◌, inl, inr, ℕ, ◌+◌, ◌<◌, false, ◌==◌, List, length, nat_lt, refl, sym, ap, ◌∙◌, arith, cases_Bool, cases_lt, eq-eqb, eqb-true, false≢true}
use Rattle.cluster.specs.declared.sets.NodeSet.{NodeSet}
use Rattle.catalogue.specs.Prelude.{Instance}
use Rattle.slices.specs.declared.slice.Weight.{Weight}
use Rattle.slices.specs.declared.slice.Weight.TheVariants.{Presence}
use Rattle.slices.specs.Elements.{machine_count, node, node_count, vm}
use Rattle.slices.specs.Ends.{snapshot_of}
use Rattle.slices.specs.Plans.{Choices}
use Rattle.slices.specs.Snapshots.{action_at, held_at, powered_at, usable_at}
use Rattle.slices.specs.Stages.{Nodes, one}
use Rattle.parts.specs.Cuts.{renumbered_choice}
use Rattle.parts.specs.Embeds.{Embeds, node_at, vm_at}
use Rattle.parts.specs.Groups.{in_group, machine_group}
use Rattle.parts.specs.Laws.{Split}
use Rattle.parts.specs.Numbers.{new_number}
use Rattle.parts.specs.Parts.{has_form, in_part, part_of}
use Rattle.parts.proofs.HoldLemmas.{action_agrees, held_agrees, held_nowhere, powered_agrees, usable_agrees}
use Rattle.parts.proofs.NumberLemmas.{old_past}
use Rattle.parts.proofs.SplitLemmas.{group_in, part_embeds}
use Rattle.parts.proofs.ViewLemmas.{IsView, node_ours, vm_back, vm_new}

-- the choices of a plan of the whole are those of a plan of the part, at the numbers of the whole
pub record Fits (p q : Instance) (mine ours : ℕ → Bool) (plan part : Choices) : Type 0 where
  pub machines : (k : ℕ) → k < machine_count q → plan (vm (vm_at p mine k)) ≡ renumbered_choice (node_at p ours) (part (vm k))
  pub nodes : (m : ℕ) → m < node_count q → plan (node (node_at p ours m)) ≡ renumbered_choice (node_at p ours) (part (node m))

-- a plan for each part, which fits the plan of the whole
abbrev pub AllFit : Instance → List NodeSet → Choices → (ℕ → Choices) → Type 0
AllFit p groups plan plans = (i : ℕ) → i < length groups → Fits p (part_of p groups i) (in_part p groups i) (in_group groups i) plan (plans i)

module _ (p : Instance) (groups : List NodeSet) (split : Split p groups) where
  emb : (i : ℕ) → Embeds p (part_of p groups i) (in_part p groups i) (in_group groups i) (has_form p groups i)
  emb i = part_embeds p groups split i

  -- a number of a part's node is of a node of the group, or of none
  node_or_none : (i m : ℕ) → IsTrue (in_group groups i (node_at p (in_group groups i) m)) ⊎ (node_at p (in_group groups i) m ≡ node_count p + m)
  node_or_none i m =
      elim (cases_lt m (node_count (part_of p groups i))) [
        | inl low ↦ inl (node_ours p (part_of p groups i) (in_part p groups i) (in_group groups i) (has_form p groups i) (emb i) m low)
        | inr past ↦ inr (old_past (in_group groups i) (node_count p) m (omega (arith, past, (emb i).nodes)))
      ]

  module _ (plan : Choices) (plans : ℕ → Choices) (fits : AllFit p groups plan plans) (t : ℕ) where
    -- what a machine of part j holds on a set, as its part sees it
    held_in : (j v : ℕ) (w : Weight) (set : Nodes) → v < machine_count p → IsTrue (in_part p groups j v) → j < length groups →
        held_at p v w set t (plan (vm v)) ≡ held_at (part_of p groups j) (new_number (in_part p groups j) v) w (λ n. set (node_at p (in_group groups j) n)) t (plans j (vm (new_number (in_part p groups j) v)))
    held_in j v w set lv mv lj =
        let k : ℕ = new_number (in_part p groups j) v in
        let lk : new_number (in_part p groups j) v < machine_count (part_of p groups j) = vm_new p (part_of p groups j) (in_part p groups j) (in_group groups j) (has_form p groups j) (emb j) v lv mv in
        let back : vm_at p (in_part p groups j) (new_number (in_part p groups j) v) ≡ v = vm_back p (part_of p groups j) (in_part p groups j) (in_group groups j) (has_form p groups j) (emb j) v lv mv in
        ap (λ (x : ℕ). held_at p x w set t (plan (vm x))) (sym back)
        ∙ ap (held_at p (vm_at p (in_part p groups j) (new_number (in_part p groups j) v)) w set t) ((fits j lj).machines (new_number (in_part p groups j) v) lk)
        ∙ held_agrees p (part_of p groups j) (in_part p groups j) (in_group groups j) (has_form p groups j) (emb j) (new_number (in_part p groups j) v) lk w set t (plans j (vm (new_number (in_part p groups j) v)))

    -- nothing, where the set has no node of its part
    held_off : (j v : ℕ) (w : Weight) (set : Nodes) → v < machine_count p → IsTrue (in_part p groups j v) → j < length groups → ((m : ℕ) → set (node_at p (in_group groups j) m) ≡ false) → held_at p v w set t (plan (vm v)) ≡ 0
    held_off j v w set lv mv lj none =
        held_in j v w set lv mv lj
        ∙ ap (λ (s : Nodes). held_at (part_of p groups j) (new_number (in_part p groups j) v) w s t (plans j (vm (new_number (in_part p groups j) v)))) (λ i m. none m i)
        ∙ held_nowhere (part_of p groups j) (new_number (in_part p groups j) v) w t (plans j (vm (new_number (in_part p groups j) v)))

    pub own_part : (v : ℕ) → IsTrue (in_part p groups (machine_group p groups v) v)
    own_part v = eq-eqb (machine_group p groups v) (machine_group p groups v) refl

    -- a machine of another part holds nothing on nodes of the group
    others_hold : (i v : ℕ) (w : Weight) (set : Nodes) → v < machine_count p → in_part p groups i v ≡ false → ((n : ℕ) → IsTrue (set n) → IsTrue (in_group groups i n)) → held_at p v w set t (plan (vm v)) ≡ 0
    others_hold i v w set lv out inside = held_off (machine_group p groups v) v w set lv (own_part v) (group_in p groups split v) off
      where
        off : (m : ℕ) → set (node_at p (in_group groups (machine_group p groups v)) m) ≡ false
        off m =
            elim (cases_Bool (set (node_at p (in_group groups (machine_group p groups v)) m))) [
              | inr none ↦ none
              | inl there ↦
                  let ours : IsTrue (in_group groups i (node_at p (in_group groups (machine_group p groups v)) m)) = inside (node_at p (in_group groups (machine_group p groups v)) m) there in
                  elim (node_or_none (machine_group p groups v) m) [
                    | inl own ↦ absurd (false≢true (sym out ∙ eq-eqb _ _ (split.are_groups.apart (machine_group p groups v) i (node_at p (in_group groups (machine_group p groups v)) m) own ours)))
                    | inr far ↦ absurd (omega (arith, far, split.are_groups.listed i (node_at p (in_group groups (machine_group p groups v)) m) ours))
                  ]
            ]

    -- a machine of the part holds nothing elsewhere
    holds_elsewhere : (i v x : ℕ) (w : Weight) → i < length groups → v < machine_count p → IsTrue (in_part p groups i v) → x < node_count p → in_group groups i x ≡ false → held_at p v w (one x) t (plan (vm v)) ≡ 0
    holds_elsewhere i v x w li lv mv lx out = held_off i v w (one x) lv mv li off
      where
        off : (m : ℕ) → (node_at p (in_group groups i) m == x) ≡ false
        off m =
            elim (cases_Bool (node_at p (in_group groups i) m == x)) [
              | inr none ↦ none
              | inl same ↦
                  let at_x : node_at p (in_group groups i) m ≡ x = eqb-true _ _ same in
                  elim (node_or_none i m) [
                    | inl own ↦ absurd (false≢true (sym out ∙ ap (in_group groups i) (sym at_x) ∙ own))
                    | inr far ↦ absurd (omega (arith, far, at_x, lx))
                  ]
            ]

    pub view : (i : ℕ) → i < length groups → IsView p (part_of p groups i) (in_part p groups i) (in_group groups i) (snapshot_of p plan t) (snapshot_of (part_of p groups i) (plans i) t)
    view i li = record {
      held = held_same;
      present = λ k set l. ap (nat_lt 0) (held_same k Presence set l);
      usable = λ m l. ap (usable_at p (node_at p (in_group groups i) m) t) ((fits i li).nodes m l) ∙ usable_agrees p (part_of p groups i) (in_part p groups i) (in_group groups i) (has_form p groups i) (emb i) m l t (plans i (node m));
      powered = λ m l. ap (powered_at p (node_at p (in_group groups i) m) t) ((fits i li).nodes m l) ∙ powered_agrees p (part_of p groups i) (in_part p groups i) (in_group groups i) (has_form p groups i) (emb i) m l t (plans i (node m));
      action = λ k far l. ap (action_at p (vm_at p (in_part p groups i) k) far t) ((fits i li).machines k l) ∙ action_agrees p (part_of p groups i) (in_part p groups i) (in_group groups i) (has_form p groups i) (emb i) k l far t (plans i (vm k));
      others = λ v w set lv out inside. others_hold i v w set lv out inside;
      others_absent = λ v set lv out inside. ap (nat_lt 0) (others_hold i v Presence set lv out inside);
      elsewhere = λ v x w lv mv lx out. holds_elsewhere i v x w li lv mv lx out;
      elsewhere_absent = λ v x lv mv lx out. ap (nat_lt 0) (holds_elsewhere i v x Presence li lv mv lx out);
    }
      where
        held_same : (k : ℕ) (w : Weight) (set : Nodes) → k < machine_count (part_of p groups i) → held_at p (vm_at p (in_part p groups i) k) w set t (plan (vm (vm_at p (in_part p groups i) k))) ≡ held_at (part_of p groups i) k w (λ n. set (node_at p (in_group groups i) n)) t (plans i (vm k))
        held_same k w set l =
            ap (held_at p (vm_at p (in_part p groups i) k) w set t) ((fits i li).machines k l)
            ∙ held_agrees p (part_of p groups i) (in_part p groups i) (in_group groups i) (has_form p groups i) (emb i) k l w set t (plans i (vm k))
