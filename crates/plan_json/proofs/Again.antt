-- One printed action is read again.
use Rattle.std.proofs.Common.{IsTrue, if◌then◌else◌}
use Rattle.base.proofs.Public.{◌≡◌, ℕ, ◌+◌, ◌<◌, ◌≤◌, ◌&&◌, Bool, true, false, List, [], ◌∷◌, ◌++◌, nat_lt, nat_le, Option, Some, None, is_some, unwrap_or, Ok, refl, arith, common_steps, and_parts, eq-eqb, ltb-true}
use Rattle.plan_json.specs.Prelude.{Act, Action, action_data, action_duration, action_for, action_from, action_step, At, Clash, Element, end_of, field_of, Forge, Instance, inventory_of, is_legal, is_online, is_raised, IsElement, IsInstance, item_path, Keep, Killed as ToKilled, Kind, kind_from, kind_number, kind_of, listed_element, listed_place, machine_kind, Node as TheNode, node_count, node_kind, NodeId, Nowhere, number_field_of, number_of as whole_of, Offline as ToOffline, Online as ToOnline, only_of, optional, Place, Ready as ToReady, Running as ToRunning, Sleeping as ToSleeping, state_of, Target, text_of, To, Vm, wanted_of, wanted_state, Wish}
use Rattle.cluster.proofs.Public.{element_named-name_of, is_name-name_of, kind_of_word-kind_word}

-- ---- what a legal choice says

no_place : (online : Bool) (wish : Wish) (n : NodeId) (kind : Kind) → node_kind online wish (At n) ≡ Some kind → ⊥
no_place online Clash n kind h = absurd (cc)
no_place true Keep n kind h = absurd (cc)
no_place false Keep n kind h = absurd (cc)
no_place true (To target) n kind h = by target h
  where
    by : (target : Target) → node_kind true (To target) (At n) ≡ Some kind → ⊥
    by ToOnline h = absurd (cc)
    by ToOffline h = absurd (cc)
    by ToRunning h = absurd (cc)
    by ToSleeping h = absurd (cc)
    by ToReady h = absurd (cc)
    by ToKilled h = absurd (cc)
no_place false (To target) n kind h = by target h
  where
    by : (target : Target) → node_kind false (To target) (At n) ≡ Some kind → ⊥
    by ToOnline h = absurd (cc)
    by ToOffline h = absurd (cc)
    by ToRunning h = absurd (cc)
    by ToSleeping h = absurd (cc)
    by ToReady h = absurd (cc)
    by ToKilled h = absurd (cc)

by_place : {A : Type 0} (b : Bool) (o : Option A) (a : A) → (if b then o else None) ≡ Some a → b ≡ true
by_place true o a h = refl
by_place false o a h = absurd (cc)

-- an action on a node is on one of the instance
on_node : (p : Instance) (e : Element) (n : NodeId) (kind : Kind) → kind_of p e (At n) ≡ Some kind → n.0 < node_count p
unfolding kind_of
on_node p (Vm v) n kind h =
    ltb-true n.0 (node_count p) (by_place (nat_lt n.0 (node_count p)) (machine_kind (state_of p v.0) (wanted_state p v.0) (is_raised p v.0) (At n)) kind h)
on_node p (TheNode m) n kind h = absurd (no_place (is_online p.nodes m.0) (wanted_of p (TheNode m)) n kind h)

pub record Acts (p : Instance) (e : Element) (place : Place) (start : ℕ) : Type 0 where
  pub kind : Kind
  pub is : kind_of p e place ≡ Some kind
  pub early : start ≤ 1000000

found : {A : Type 0} (o : Option A) → is_some o ≡ true → (a : A) × (o ≡ Some a)
found None h = absurd (cc)
found (Some a) h = (a, refl)

pub acts : (p : Instance) (e : Element) (place : Place) (start : ℕ) → IsInstance p → is_legal p e (Act place start) ≡ true → Acts p e place start
unfolding is_legal end_of
acts p e place start is legal =
    let parts = and_parts (is_some (kind_of p e place)) (nat_le (start + action_duration p e place) p.horizon) legal in
    let kind = found (kind_of p e place) parts.0 in
    let late : start + action_duration p e place ≤ p.horizon = grind (arith, common_steps) in
    record { kind = kind.0; is = kind.1; early = omega (arith, is.horizon) }

-- ---- one action

from_zero : (start : ℕ) → start ≤ 1000000 → (nat_le 0 start && nat_le start 1000000) ≡ true
from_zero start le = grind (arith, common_steps)

action_again : (p : Instance) (path : List ℕ) (e : Element) (place : Place) (start : ℕ) (kind : Kind) → IsInstance p → IsElement p e
    → kind_of p e place ≡ Some kind → start ≤ 1000000
    → action_from (inventory_of p) (action_data p e place start) path ≡ Ok (record { element = e; kind = kind; place = place; start = start })
unfolding action_from action_data listed_element kind_from listed_place field_of text_of number_field_of whole_of only_of optional
action_again p path e Nowhere start kind is there own early =
    rw (is_name-name_of (inventory_of p) e is.inventory there, element_named-name_of (inventory_of p) e is.inventory there, own, kind_of_word-kind_word kind, from_zero start early) refl
action_again p path e (At n) start kind is there own early =
    let on : IsElement p (TheNode n) = on_node p e n kind own in
    rw (
      is_name-name_of (inventory_of p) e is.inventory there,
      element_named-name_of (inventory_of p) e is.inventory there,
      own,
      kind_of_word-kind_word kind,
      is_name-name_of (inventory_of p) (TheNode n) is.inventory on,
      element_named-name_of (inventory_of p) (TheNode n) is.inventory on,
      from_zero start early,
    ) refl

-- the action of a choice of the element
abbrev pub written_action : Instance → Element → Place → ℕ → Action
written_action p e place start = record { element = e; kind = unwrap_or (kind_of p e place) Forge; place = place; start = start }

-- it is read, where no action before is of its element
pub step_again : (p : Instance) (path : List ℕ) (at : ℕ) (actions : List Action) (e : Element) (place : Place) (start : ℕ) → IsInstance p → IsElement p e
    → IsTrue (is_legal p e (Act place start)) → action_for actions e ≡ None
    → action_step p path at actions (action_data p e place start) ≡ Ok (actions ++ written_action p e place start ∷ [])
unfolding action_step
step_again p path at actions e place start is there legal new =
    let a = acts p e place start is legal in
    rw (action_again p (item_path path at) e place start a.kind is there a.is a.early, new, a.is, eq-eqb (kind_number a.kind) (kind_number a.kind) refl, legal) refl
