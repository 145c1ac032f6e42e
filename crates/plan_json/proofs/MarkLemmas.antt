-- Actions of elements that differ, one more at a time.
use Rattle.std.proofs.Common.{IsTrue, if◌then◌else◌}
use Rattle.base.proofs.Public.{◌≡◌, ℕ, zero, suc, ◌+◌, ◌<◌, ◌||◌, Bool, true, false, List, [], ◌∷◌, ◌++◌, length, take, get_or, Option, Some, None, is_none, is_some, refl, sym, ap, ◌∙◌, arith, and_from, and_parts, All-append, All}
use Rattle.plan_json.specs.Prelude.{Action, action_for, are_apart, AreActions, AreMarked, as_choice, Element, has_machine, has_node, Instance, Inventory, is_kind, is_legal, is_legal_action, is_same, IsElement, IsInventory, IsListed, IsWithinLimits, kind_of, MachineSet, Node, NodeSet, Vm}
use Rattle.plan_json.proofs.Finding.{is_same-turned, has-more, none_of, none_passes}

-- ---- marks

pub AreMarked-push : (machines marked_machines : MachineSet) (nodes marked_nodes : NodeSet) (actions : List Action) (action : Action) → AreMarked machines nodes actions
    → ((v : ℕ) → has_machine marked_machines v ≡ (is_same (Vm (record { 0 = v })) action.element || has_machine machines v))
    → ((n : ℕ) → has_node marked_nodes n ≡ (is_same (Node (record { 0 = n })) action.element || has_node nodes n))
    → AreMarked marked_machines marked_nodes (actions ++ action ∷ [])
AreMarked-push machines marked_machines nodes marked_nodes actions action old ms ns = record {
  machines_are = λ v. ms v ∙ ap (λ b. is_same (Vm (record { 0 = v })) action.element || b) (old.machines_are v) ∙ sym (has-more actions action (Vm (record { 0 = v })));
  nodes_are = λ n. ns n ∙ ap (λ b. is_same (Node (record { 0 = n })) action.element || b) (old.nodes_are n) ∙ sym (has-more actions action (Node (record { 0 = n })));
}

pub within_limits : (k : Inventory) (e : Element) → IsInventory k → IsListed k e → IsWithinLimits e
within_limits k (Vm v) is listed = omega (arith, is.few_machines)
within_limits k (Node n) is listed = omega (arith, is.few_nodes)

-- ---- elements that differ

apart-more : (actions : List Action) (action : Action) → are_apart actions ≡ true → action_for actions action.element ≡ None → are_apart (actions ++ action ∷ []) ≡ true
apart-more [] action apart new = refl
apart-more (a ∷ actions) action apart new =
    let parts = and_parts (is_none (action_for actions a.element)) _ apart in
    let here : is_same action.element a.element ≡ false = none_passes (λ x. is_same action.element x.element) (a ∷ actions) 0 a new (omega arith) refl in
    let later : action_for actions action.element ≡ None = rest (is_same action.element a.element) here new in
    let apart_here : is_same a.element action.element ≡ false = is_same-turned a.element action.element ∙ here in
    and_from _ _ (none (action_for actions a.element) (action_for (actions ++ action ∷ []) a.element) (is_same a.element action.element) (has-more actions action a.element) apart_here parts.0) (apart-more actions action parts.1 later)
  where
    rest : (b : Bool) → b ≡ false → (if b then Some a else action_for actions action.element) ≡ None → action_for actions action.element ≡ None
    rest b is h = rw is at h

    none : (o q : Option Action) (b : Bool) → is_some q ≡ (b || is_some o) → b ≡ false → is_none o ≡ true → is_none q ≡ true
    none None None b more apart was = refl
    none None (Some x) true more apart was = absurd (cc)
    none None (Some x) false more apart was = absurd (cc)
    none (Some y) q b more apart was = absurd (cc)

-- no action before one is of its element
pub apart_at : (actions : List Action) (i : ℕ) (action : Action) → i < length actions → action ≡ get_or actions i action → are_apart actions ≡ true
    → action_for (take i actions) action.element ≡ None
apart_at [] i action lt is apart = absurd (omega arith)
apart_at (a ∷ actions) zero action lt is apart = refl
apart_at (a ∷ actions) (suc i) action lt is apart =
    let parts = and_parts (is_none (action_for actions a.element)) _ apart in
    let other : is_same a.element action.element ≡ false = none_passes (λ x. is_same a.element x.element) actions i action (nothing (action_for actions a.element) parts.0) (omega arith) is in
    let first : is_same action.element a.element ≡ false = is_same-turned action.element a.element ∙ other in
    rw first (apart_at actions i action (omega arith) is parts.1)
  where
    nothing : {A : Type 0} (o : Option A) → is_none o ≡ true → o ≡ None
    nothing None h = refl
    nothing (Some x) h = absurd (cc)

one : (P : Action → Type 0) (action : Action) → P action → All P (action ∷ [])
one P action h zero d lt = h
one P action h (suc k) d lt = absurd (omega arith)

pub AreActions-more : (p : Instance) (actions : List Action) (action : Action) → AreActions p actions → IsElement p action.element → is_legal_action p action ≡ true
    → action_for actions action.element ≡ None → AreActions p (actions ++ action ∷ [])
AreActions-more p actions action old there legal new = record {
  elements = All-append (λ a. IsElement p a.element) actions (action ∷ []) old.elements (one (λ a. IsElement p a.element) action there);
  legal = All-append (λ a. IsTrue (is_legal p a.element (as_choice a))) actions (action ∷ []) old.legal
      (one (λ a. IsTrue (is_legal p a.element (as_choice a))) action (and_parts (is_kind (kind_of p action.element action.place) action.kind) _ legal).1);
  apart = apart-more actions action old.apart new;
}

pub no_actions : (p : Instance) → AreActions p []
no_actions p = record { elements = λ k d lt. absurd (omega arith); legal = λ k d lt. absurd (omega arith); apart = refl }

pub ruleset reading_rules = (AreActions-more, within_limits, none_of)
