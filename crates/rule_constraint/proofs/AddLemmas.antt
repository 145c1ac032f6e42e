-- A constraint in the lists of all that it looks at.
use Rattle.rule_constraint.proofs.Prelude.{IsTrue, ◌≡◌, ◌⊎◌, inl, inr, ℕ, zero, suc, ◌+◌, ◌<◌, ◌≤◌, false, List, [], ◌∷◌, length, Some, None, refl, sym, subst, ◌∙◌, arith, slice_get, slice_index_or, Contains, cases_eq, cases_lt, actions_of, AreLooking, AreDirty, Constraint, constraint_watch, Element, has_node, HasList, Instance, IsAdded, IsElement, IsIndexOf, IsListed, IsPut, IsUnseen, Levels, Lists, TheNode, NodeId, NodeSet, nothing, presences_of, Scope, scope_of, Vm, VmId, watch_of, powered_in_set, IsMachineUnseen, IsNodeUnseen}
use Rattle.rule_constraint.proofs.IndexLemmas.{is_in_or_not}

-- ---- by where a constraint looks

-- only at machines that pass, and not at nodes
pub record LooksAtMachines (k : Scope) (passes : ℕ → Type 0) : Type 0 where
  pub machines : (v : ℕ) → ¬ passes v → IsMachineUnseen k v
  pub nodes : (n : ℕ) → IsNodeUnseen k n

pub presences_look : (passes : ℕ → Type 0) → LooksAtMachines (presences_of passes) passes
presences_look passes = record {
  machines = λ v out. record { held = λ w set h. h; present = λ set h. out h; action = λ far h. h };
  nodes = λ n. record { usable = λ h. h; powered = λ h. h };
}

pub actions_look : (passes : ℕ → Type 0) → LooksAtMachines (actions_of passes) passes
actions_look passes = record {
  machines = λ v out. record { held = λ w set h. h; present = λ set h. h; action = λ far h. out h };
  nodes = λ n. record { usable = λ h. h; powered = λ h. h };
}

pub added_machines : (k : Constraint) (passes : ℕ → Type 0) (c : ℕ) (old : Lists) (machines : List (List ℕ)) → LooksAtMachines (scope_of k) passes → IsPut passes c old.machines machines → IsAdded k c old (record { machines = machines; nodes = old.nodes; everywhere = old.everywhere })
added_machines k passes c old machines looks put = record {
  machines = put.count;
  nodes = refl;
  unseen = unseen;
  kept = kept;
  only = only;
}
  where
    unseen : (e : Element) → HasList (record { machines = machines; nodes = old.nodes; everywhere = old.everywhere }) e → ¬ IsListed (record { machines = machines; nodes = old.nodes; everywhere = old.everywhere }) e c → IsUnseen (scope_of k) e
    unseen (Vm v) h out = looks.machines v.0 (λ x. out (inl (put.added v.0 h x)))
    unseen (TheNode n) h out = looks.nodes n.0

    kept : (e : Element) (d : ℕ) → IsListed old e d → IsListed (record { machines = machines; nodes = old.nodes; everywhere = old.everywhere }) e d
    kept (Vm v) d (inl x) = inl (put.kept v.0 d x)
    kept (Vm v) d (inr y) = inr y
    kept (TheNode n) d x = x

    only : (e : Element) (d : ℕ) → IsListed (record { machines = machines; nodes = old.nodes; everywhere = old.everywhere }) e d → IsListed old e d ⊎ (d ≡ c)
    only (Vm v) d (inl x) = elim (put.only v.0 d x) [ inl before ↦ inl (inl before) | inr new ↦ inr new ]
    only (Vm v) d (inr y) = inl (inr y)
    only (TheNode n) d x = inl x

pub added_nodes : (k : Constraint) (set : NodeSet) (c : ℕ) (old : Lists) (nodes : List (List ℕ)) → scope_of k ≡ powered_in_set (has_node set) → IsPut (λ n. IsTrue (has_node set n)) c old.nodes nodes → IsAdded k c old (record { machines = old.machines; nodes = nodes; everywhere = old.everywhere })
added_nodes k set c old nodes is put = record {
  machines = refl;
  nodes = put.count;
  unseen = λ e h out. subst (λ s. IsUnseen s e) (sym is) (unseen e h out);
  kept = kept;
  only = only;
}
  where
    unseen : (e : Element) → HasList (record { machines = old.machines; nodes = nodes; everywhere = old.everywhere }) e → ¬ IsListed (record { machines = old.machines; nodes = nodes; everywhere = old.everywhere }) e c → IsUnseen (powered_in_set (has_node set)) e
    unseen (Vm v) h out = record { held = λ w s x. x; present = λ s x. x; action = λ far x. x }
    unseen (TheNode n) h out = record { usable = λ x. x; powered = λ x. out (put.added n.0 h x) }

    kept : (e : Element) (d : ℕ) → IsListed old e d → IsListed (record { machines = old.machines; nodes = nodes; everywhere = old.everywhere }) e d
    kept (Vm v) d x = x
    kept (TheNode n) d x = put.kept n.0 d x

    only : (e : Element) (d : ℕ) → IsListed (record { machines = old.machines; nodes = nodes; everywhere = old.everywhere }) e d → IsListed old e d ⊎ (d ≡ c)
    only (Vm v) d x = inl x
    only (TheNode n) d x = put.only n.0 d x

-- ---- one constraint more in the index

pub index_more : (p : Instance) (c : ℕ) (k : Constraint) (old new : Lists) → slice_get p.constraints c ≡ Some k → IsIndexOf p c old → IsAdded k c old new → IsIndexOf p (c + 1) new
index_more p c k old new is index added = record {
  machines = added.machines ∙ index.machines;
  nodes = added.nodes ∙ index.nodes;
  unseen = λ e d element h out. unseen e d element h out (cases_eq d c);
  within = λ e d x. elim (added.only e d x) [ inl before ↦ omega (arith, index.within e d before) | inr same ↦ omega (arith, same) ];
}
  where
    has_list : (e : Element) → IsElement p e → HasList new e
    has_list (Vm v) element = omega (arith, element, added.machines, index.machines)
    has_list (TheNode n) element = omega (arith, element, added.nodes, index.nodes)

    unseen : (e : Element) (d : ℕ) → IsElement p e → d < c + 1 → ¬ IsListed new e d → (d ≡ c) ⊎ ¬ (d ≡ c) → IsUnseen (constraint_watch p d).scope e
    unseen e d element h out (inl same) =
        subst (λ i. IsUnseen (constraint_watch p i).scope e) (sym same) (subst (λ o. IsUnseen (watch_of p o).scope e) (sym is) (added.unseen e (has_list e element) (subst (λ i. ¬ IsListed new e i) same out)))
    unseen e d element h out (inr ne) = index.unseen e d element (omega (arith, h, ne)) (λ x. out (added.kept e d x))

-- ---- all constraints that look at an element are dirty

-- past the constraints there is none, which looks at nothing
none-past : (ks : List Constraint) (c : ℕ) → length ks ≤ c → slice_get ks c ≡ None
none-past [] c h = refl
none-past (k ∷ ks) zero h = absurd (omega arith)
none-past (k ∷ ks) (suc c) h = none-past ks c (omega (arith, h))

nothing-seen : (e : Element) → IsUnseen nothing e
nothing-seen (Vm v) = record { held = λ w set h. h; present = λ set h. h; action = λ far h. h }
nothing-seen (TheNode n) = record { usable = λ h. h; powered = λ h. h }

module _ (p : Instance) (l : Lists) (index : IsIndexOf p (length p.constraints) l) (m : Levels) where
  unseen-where : (e : Element) (c : ℕ) → IsElement p e → (c < length p.constraints) ⊎ (length p.constraints ≤ c) → ¬ IsListed l e c → IsUnseen (constraint_watch p c).scope e
  unseen-where e c element (inl low) out = index.unseen e c element low out
  unseen-where e c element (inr high) out = rw (none-past p.constraints c high) (nothing-seen e)

  pub looking_machine : (spared : ℕ → Type 0) (v : VmId) (named : List ℕ) (n o : Levels) → IsElement p (Vm v) → named ≡ slice_index_or l.machines v.0 [] →
      AreDirty spared (length named) named m n → AreDirty spared (length l.everywhere) l.everywhere n o → AreLooking spared p (Vm v) m o
  looking_machine spared v named n o element is first second = record {
    older = second.older ∙ first.older;
    count = second.count ∙ first.count;
    kept = λ c h e. first.kept c (omega (arith, h, second.count)) (second.kept c h e);
    unseen = λ c h e. at c h e (is_in_or_not named c) (is_in_or_not l.everywhere c);
  }
    where
      at : (c : ℕ) → c < length o.top → slice_index_or o.top c false ≡ false → Contains named c ⊎ ¬ Contains named c → Contains l.everywhere c ⊎ ¬ Contains l.everywhere c → IsUnseen (constraint_watch p c).scope (Vm v) ⊎ spared c
      at c h e (inl x) either = inr (first.others c x.0 (omega (arith, h, second.count)) (second.kept c h e) x.1 x.2)
      at c h e (inr not_named) (inl x) = inr (second.others c x.0 h e x.1 x.2)
      at c h e (inr not_named) (inr nowhere) =
          inl (unseen-where (Vm v) c element (cases_lt c (length p.constraints)) (λ x. elim x [ inl y ↦ not_named (subst (λ xs. Contains xs c) (sym is) y) | inr y ↦ nowhere y ]))

  pub looking_node : (spared : ℕ → Type 0) (k : NodeId) (named : List ℕ) (n : Levels) → IsElement p (TheNode k) → named ≡ slice_index_or l.nodes k.0 [] → AreDirty (λ c. ⊥) (length named) named m n → AreLooking spared p (TheNode k) m n
  looking_node spared k named n element is first = record {
    older = first.older;
    count = first.count;
    kept = first.kept;
    unseen = λ c h e. inl (unseen-where (TheNode k) c element (cases_lt c (length p.constraints)) (λ x. let y = subst (λ xs. Contains xs c) (sym is) x in first.others c y.0 h e y.1 y.2));
  }
