-- A printed plan is read again.
use Rattle.std.proofs.Common.{option_map, IfSome, IsTrue, codes, Bor}
use Rattle.std.proofs.lemmas.List.{append-nil}
use Rattle.base.proofs.Public.{◌≡◌, ℕ, zero, suc, ◌+◌, ◌<◌, ◌≤◌, ◌&&◌, ◌==◌, Bool, true, false, not, List, [], ◌∷◌, ◌++◌, length, take, drop, get_or, nat_le, Option, Some, None, Ok, refl, sym, ap, ap₂, ◌∙◌, arith, ⊎_elim, append_assoc, max, max-le, common_steps, cases_eq, le-leb, length-take, length-drop, get_or-take, get_or-drop, ext_get_or, find-append, find, range_with_len, flat_map, option_copied, option_map_or, option_or}
use Rattle.plan_json.specs.Prelude.{Act, Action, action_data, action_for, action_step, actions_data, actions_from, as_choice, At, Choice, choice_data, choice_for, choices_for, choices_of, each, Element, element_at, element_count, element_data, element_number, field_of, first_to_act, Idle, Instance, inventory_of, is_idle, is_legal, is_same, IsElement, IsInstance, IsPlanOf, json_of, key_path, list_of, machine_count, max_machines, max_nodes, max_text_bytes, must_act, node, Node as TheNode, node_count, Nowhere, only_of, parted, plan_data, plan_of, plan_or_none, plan_with, PlanChoices, root, Vm, vm, walk}
use Rattle.serde_json.specs.Data.{Data, depth, items_depth}
use Rattle.serde_json.specs.Read.{max_depth}
use Rattle.serde_json.specs.View.{items_of}
use Rattle.json_walk.proofs.Public.{items_list-items_of}
use Rattle.cluster.proofs.Public.{element_number-lt, element_at-element_number, IsListed-element_at, element_number-element_at}
use Rattle.plan_json.proofs.Again.{written_action, step_again}
use Rattle.plan_json.proofs.Finding.{is_same-number, is_same-self}
use Rattle.plan_json.proofs.ChoiceLemmas.{length-choices_for, choices_for-at}

-- the choice of the element of a number
abbrev chosen_in : Instance → PlanChoices → ℕ → Choice
chosen_in p plan x = choices_of plan (element_at (inventory_of p) x)

-- the action of a choice, if it is one
abbrev choice_actions : Instance → Element → Choice → List Action
choice_actions p e Idle = []
choice_actions p e (Act place start) = written_action p e place start ∷ []

abbrev element_actions : Instance → PlanChoices → ℕ → List Action
element_actions p plan x = choice_actions p (element_at (inventory_of p) x) (chosen_in p plan x)

-- the actions of k elements from one on
actions_to : Instance → PlanChoices → ℕ → ℕ → List Action
actions_to p plan x k = flat_map (element_actions p plan) (range_with_len x k)

-- ---- what is found among them

own-action : (p : Instance) (e f : Element) (c : Choice) → is_same f e ≡ false → action_for (choice_actions p e c) f ≡ None
own-action p e f Idle other = refl
own-action p e f (Act place start) other = rw other refl

own-choice : (p : Instance) (e : Element) (c : Choice) (rest : List Action) → action_for rest e ≡ None → choice_for (choice_actions p e c ++ rest) e ≡ c
own-choice p e Idle rest none = rw none refl
own-choice p e (Act place start) rest none = rw (is_same-self e) refl

skips : (p : Instance) (e f : Element) (c : Choice) (rest : List Action) → is_same f e ≡ false → action_for (choice_actions p e c ++ rest) f ≡ action_for rest f
skips p e f Idle rest other = refl
skips p e f (Act place start) rest other = rw other refl

apart : (p : Instance) (x y : ℕ) → x < element_count (inventory_of p) → y < element_count (inventory_of p) → (y ≡ x → ⊥) → is_same (element_at (inventory_of p) y) (element_at (inventory_of p) x) ≡ false
apart p x y lt below other =
    let k = inventory_of p in
    is_same-number k (element_at k y) (element_at k x) (IsListed-element_at k y below) (IsListed-element_at k x lt)
    ∙ ap₂ (λ a b. a == b) (element_number-element_at k y below) (element_number-element_at k x lt)
    ∙ differ y x other
  where
    differ : (y x : ℕ) → (y ≡ x → ⊥) → (y == x) ≡ false
    differ y x other = grind (arith, common_steps)

-- nothing of elements before and after
not_among : (p : Instance) (plan : PlanChoices) (x k y : ℕ) → x + k ≤ element_count (inventory_of p) → y < element_count (inventory_of p) → ((z : ℕ) → x ≤ z → z < x + k → y ≡ z → ⊥)
    → action_for (actions_to p plan x k) (element_at (inventory_of p) y) ≡ None
unfolding actions_to
not_among p plan x zero y within below other = refl
not_among p plan x (suc k) y within below other =
    skips p (element_at (inventory_of p) x) (element_at (inventory_of p) y) (chosen_in p plan x) (flat_map (element_actions p plan) (range_with_len (x + 1) k)) (apart p x y (omega arith) below (other x (omega arith) (omega arith)))
    ∙ not_among p plan (x + 1) k y (omega arith) below (λ z le lt. other z (omega arith) (omega arith))

-- each element's choice
choice_again : (p : Instance) (plan : PlanChoices) (x k y : ℕ) → x + k ≤ element_count (inventory_of p) → x ≤ y → y < x + k
    → choice_for (actions_to p plan x k) (element_at (inventory_of p) y) ≡ chosen_in p plan y
unfolding actions_to
choice_again p plan x zero y within le lt = absurd (omega arith)
choice_again p plan x (suc k) y within le lt =
    ⊎_elim
    (λ (same : y ≡ x). rw same (own-choice p (element_at (inventory_of p) x) (chosen_in p plan x) (flat_map (element_actions p plan) (range_with_len (x + 1) k))
    (not_among p plan (x + 1) k x (omega arith) (omega arith) (λ z from below is. omega arith))))
    (λ other. ap (λ o. option_map_or as_choice o Idle) (skips p (element_at (inventory_of p) x) (element_at (inventory_of p) y) (chosen_in p plan x) (flat_map (element_actions p plan) (range_with_len (x + 1) k)) (apart p x y (omega arith) (omega arith) other))
    ∙ choice_again p plan (x + 1) k y (omega arith) (omega arith) (omega arith))
    (cases_eq y x)

-- ---- the list of actions

each-choice : (p : Instance) (path : List ℕ) (place : ℕ) (actions out : List Action) (e : Element) (c : Choice) (rest : List Data) → IsInstance p → IsElement p e → IsTrue (is_legal p e c)
    → action_for actions e ≡ None → ((next : ℕ) → each (action_step p path) next (actions ++ choice_actions p e c) rest ≡ Ok out)
    → each (action_step p path) place actions (choice_data p e c ++ rest) ≡ Ok out
unfolding each
each-choice p path place actions out e Idle rest is there legal new later = rw (append-nil actions) at (later place)
each-choice p path place actions out e (Act at start) rest is there legal new later = rw (step_again p path place actions e at start is there legal new) (later (suc place))

read-actions : (p : Instance) (plan : PlanChoices) (path : List ℕ) (k x place : ℕ) (before : List Action) → IsInstance p → IsPlanOf p plan → x + k ≤ element_count (inventory_of p)
    → ((y : ℕ) → x ≤ y → y < element_count (inventory_of p) → action_for before (element_at (inventory_of p) y) ≡ None)
    → each (action_step p path) place before (flat_map (element_data p plan) (range_with_len x k)) ≡ Ok (before ++ actions_to p plan x k)
unfolding each actions_to
read-actions p plan path zero x place before is plan_is within new = ap Ok (sym (append-nil before))
read-actions p plan path (suc k) x place before is plan_is within new =
    let e = element_at (inventory_of p) x in
    let c = chosen_in p plan x in
    let there = IsListed-element_at (inventory_of p) x (omega arith) in
    let whole = append_assoc before (choice_actions p e c) (flat_map (element_actions p plan) (range_with_len (x + 1) k)) in
    each-choice p path place before (before ++ (choice_actions p e c ++ flat_map (element_actions p plan) (range_with_len (x + 1) k))) e c (flat_map (element_data p plan) (range_with_len (x + 1) k)) is there
    (plan_is.legal e there) (new x (omega arith) (omega arith))
    (λ next. read-actions p plan path k (x + 1) next (before ++ choice_actions p e c) is plan_is (omega arith)
    (λ y le lt. find-append (λ a. is_same (element_at (inventory_of p) y) a.element) before (choice_actions p e c)
    ∙ ap₂ option_or (new y (omega arith) lt) (own-action p e (element_at (inventory_of p) y) c (apart p x y (omega arith) lt (λ (same : y ≡ x). omega arith))))
    ∙ ap Ok whole)

all_read : (p : Instance) (plan : PlanChoices) (path : List ℕ) → IsInstance p → IsPlanOf p plan
    → each (action_step p path) 0 [] (flat_map (element_data p plan) (range_with_len 0 (element_count (inventory_of p)))) ≡ Ok (actions_to p plan 0 (element_count (inventory_of p)))
all_read p plan path is plan_is = read-actions p plan path (element_count (inventory_of p)) 0 0 [] is plan_is (omega arith) (λ y le lt. refl)

few-choice : (p : Instance) (e : Element) (c : Choice) (rest : List Data) (k : ℕ) → length rest ≤ k → length (choice_data p e c ++ rest) ≤ suc k
few-choice p e Idle rest k le = omega arith
few-choice p e (Act at start) rest k le = omega arith

few-actions : (p : Instance) (plan : PlanChoices) (x k : ℕ) → length (flat_map (element_data p plan) (range_with_len x k)) ≤ k
few-actions p plan x zero = omega arith
few-actions p plan x (suc k) =
    few-choice p (element_at (inventory_of p) x) (chosen_in p plan x) (flat_map (element_data p plan) (range_with_len (x + 1) k)) k (few-actions p plan (x + 1) k)

-- ---- no element has to act that none is of

all_fail : (f : ℕ → Bool) (a n : ℕ) → ((x : ℕ) → a ≤ x → x < a + n → f x ≡ false) → find f (range_with_len a n) ≡ None
all_fail f a zero h = refl
all_fail f a (suc n) h = rw (h a (omega arith) (omega arith)) (all_fail f (a + 1) n (λ x le lt. h x (omega arith) (omega arith)))

is_free : (p : Instance) (e : Element) (c : Choice) → IsTrue (is_legal p e c) → (is_idle c && not (is_legal p e Idle)) ≡ false
is_free p e Idle legal = rw legal refl
is_free p e (Act at start) legal = refl

read_choice : (p : Instance) (plan : PlanChoices) (x : ℕ) → x < element_count (inventory_of p)
    → get_or (choices_for p (actions_to p plan 0 (element_count (inventory_of p)))) x Idle ≡ chosen_in p plan x
read_choice p plan x lt =
    choices_for-at p (actions_to p plan 0 (element_count (inventory_of p))) x lt ∙ choice_again p plan 0 (element_count (inventory_of p)) x (omega arith) (omega arith) (omega arith)

none_to_act_again : (p : Instance) (plan : PlanChoices) → IsPlanOf p plan → first_to_act p (choices_for p (actions_to p plan 0 (element_count (inventory_of p)))) ≡ None
unfolding first_to_act
none_to_act_again p plan plan_is =
    ap (option_map (element_at (inventory_of p))) (all_fail (must_act p (choices_for p (actions_to p plan 0 (element_count (inventory_of p))))) 0 (element_count (inventory_of p))
    (λ x le lt. (rw (read_choice p plan x (omega arith))
    (is_free p (element_at (inventory_of p) x) (chosen_in p plan x) (plan_is.legal (element_at (inventory_of p) x) (IsListed-element_at (inventory_of p) x (omega arith)))))))

choices_of-parted : (p : Instance) (choices : List Choice) (e : Element) → IsElement p e → choices_of (parted p choices) e ≡ get_or choices (element_number (inventory_of p) e) Idle
choices_of-parted p choices (Vm v) there = get_or-take (machine_count p) choices v.0 Idle there
choices_of-parted p choices (TheNode n) there = get_or-drop (machine_count p) choices n.0 Idle

same_choice : (p : Instance) (plan : PlanChoices) (e : Element) → IsElement p e
    → choices_of (parted p (choices_for p (actions_to p plan 0 (element_count (inventory_of p))))) e ≡ choices_of plan e
same_choice p plan e there =
    choices_of-parted p (choices_for p (actions_to p plan 0 (element_count (inventory_of p)))) e there
    ∙ read_choice p plan (element_number (inventory_of p) e) (element_number-lt (inventory_of p) e there)
    ∙ ap (choices_of plan) (element_at-element_number (inventory_of p) e there)

same_plan : (p : Instance) (plan : PlanChoices) → IsPlanOf p plan → parted p (choices_for p (actions_to p plan 0 (element_count (inventory_of p)))) ≡ plan
same_plan p plan is =
    let choices = choices_for p (actions_to p plan 0 (element_count (inventory_of p))) in
    let count : length choices ≡ element_count (inventory_of p) = length-choices_for p (actions_to p plan 0 (element_count (inventory_of p))) in
    let before : length (take (machine_count p) choices) ≡ machine_count p = omega (arith, length-take (machine_count p) choices, count) in
    let after : length (drop (machine_count p) choices) ≡ node_count p = omega (arith, length-drop (machine_count p) choices, count) in
    ap₂ (λ (ms ns : List Choice). record { machines = ms; nodes = ns })
    (ext_get_or Idle (take (machine_count p) choices) plan.machines (before ∙ sym is.machines) (λ i lt. same_choice p plan (vm i) (omega (arith, before))))
    (ext_get_or Idle (drop (machine_count p) choices) plan.nodes (after ∙ sym is.nodes) (λ i lt. same_choice p plan (node i) (omega (arith, after))))

-- ---- the whole

walk_again : (p : Instance) (plan : PlanChoices) → IsInstance p → IsPlanOf p plan → walk p (plan_data p (Some plan)) ≡ Ok plan
unfolding walk plan_data actions_data actions_from field_of list_of only_of plan_with
walk_again p plan is plan_is =
    let few : nat_le (length (flat_map (element_data p plan) (range_with_len 0 (element_count (inventory_of p))))) (max_machines + max_nodes) ≡ true =
    le-leb _ (max_machines + max_nodes) (omega (arith, few-actions p plan 0 (element_count (inventory_of p)), is.inventory.few_nodes, is.inventory.few_machines)) in
    rw (
      items_list-items_of (flat_map (element_data p plan) (range_with_len 0 (element_count (inventory_of p)))),
      few,
      all_read p plan (key_path root (codes "actions")) is plan_is,
      none_to_act_again p plan plan_is,
      same_plan p plan plan_is,
    ) refl

plan_again : (p : Instance) (plan : Option PlanChoices) → IsInstance p → IfSome plan (IsPlanOf p) → plan_or_none p (plan_data p plan) ≡ Ok plan
unfolding plan_or_none plan_data
plan_again p None is plan_is = refl
plan_again p (Some plan) is plan_is = rw (walk_again p plan is plan_is) refl

-- the bytes of a value give what the value gives
plan_of-value : (p : Instance) (bytes : List ℕ) (d : Data) → json_of bytes ≡ Some d → length bytes ≤ max_text_bytes → plan_of p bytes ≡ plan_or_none p d
unfolding plan_of
plan_of-value p bytes d is le = rw (le-leb (length bytes) max_text_bytes le, is) refl

-- ---- how deep a printed plan nests

flat_choice : (p : Instance) (e : Element) (c : Choice) (rest : List Data) → items_depth (items_of rest) ≤ 1 → items_depth (items_of (choice_data p e c ++ rest)) ≤ 1
unfolding action_data
flat_choice p e Idle rest h = h
flat_choice p e (Act Nowhere start) rest h = max-le (omega arith) h
flat_choice p e (Act (At n) start) rest h = max-le (omega arith) h

flat_choices : (p : Instance) (plan : PlanChoices) (x k : ℕ) → items_depth (items_of (flat_map (element_data p plan) (range_with_len x k))) ≤ 1
flat_choices p plan x zero = omega arith
flat_choices p plan x (suc k) =
    flat_choice p (element_at (inventory_of p) x) (chosen_in p plan x) (flat_map (element_data p plan) (range_with_len (x + 1) k)) (flat_choices p plan (x + 1) k)

flat_plan : (p : Instance) (plan : Option PlanChoices) → depth (plan_data p plan) ≤ max_depth
unfolding plan_data actions_data
flat_plan p None = omega arith
flat_plan p (Some plan) = deep (items_depth (items_of (flat_map (element_data p plan) (range_with_len 0 (element_count (inventory_of p)))))) (flat_choices p plan 0 (element_count (inventory_of p)))
  where
    deep : (n : ℕ) → n ≤ 1 → suc (max (suc n) 0) ≤ 127
    deep n le = omega arith

-- ---- the bytes

pub lent : {A : Type 0} (P : A → Type 0) (o : Option (Bor A)) → IfSome o (λ a. P a.now) → IfSome (option_copied o) P
lent P None h = tt
lent P (Some a) h = h

-- bytes that have a printed plan's value, and are no more than can be read
pub bytes_again : (p : Instance) (plan : Option PlanChoices) (d : Data) (bytes : List ℕ) → IsInstance p → IfSome plan (IsPlanOf p) → d ≡ plan_data p plan
    → (depth d ≤ max_depth → json_of bytes ≡ Some d) → length bytes ≤ max_text_bytes → plan_of p bytes ≡ Ok plan
bytes_again p plan d bytes is plan_is same reads le =
    plan_of-value p bytes d (reads (rw same (flat_plan p plan))) le ∙ ap (plan_or_none p) same ∙ plan_again p plan is plan_is
