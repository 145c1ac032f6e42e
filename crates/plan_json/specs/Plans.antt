-- The plan that bytes have for a problem, or their first fault.
use Rattle.std.specs.Prelude.{ℕ, ◌+◌, List, [], ◌∷◌, ◌++◌, length, map, nat_le, ◌==◌, ◌&&◌, Bool, true, false, not, Option, Some, None, is_some, is_none, option_map, slice_index_or, Ok, Err, codes, if◌then◌else◌}
use Rattle.std.specs.List.{find, range_with_len}
use Rattle.std.specs.Option.{ok_or, option_map_or}
use Rattle.json_text.specs.Prelude.{as_walk, each, fault_at, field_by, item_path, json_of, key_path, list_of, only_keys, root, wants, ◌>>=◌, ◌>>◌}
use Rattle.slices.specs.Prelude.{element_at, element_count, Instance, inventory_of, is_legal, kind_number, kind_of, max_machines, max_nodes, parted, PlanChoices}
use Rattle.json_walk.specs.declared.fault.FaultKind.TheVariants.{OutOfRange}
use Rattle.json_walk.specs.Json.{max_text_bytes}
use Rattle.cluster.specs.declared.choices.Choice.{Choice}
use Rattle.cluster.specs.declared.choices.Choice.TheVariants.{Idle, Act}
use Rattle.cluster.specs.declared.ids.Element.{Element}
use Rattle.cluster.specs.declared.ids.Element.TheVariants.{Vm, Node}
use Rattle.cluster.specs.declared.kinds.Kind.{Kind}
use Rattle.serde_json.specs.Data.{Data}
use Rattle.serde_json.specs.Find.{as_null}
use Rattle.plan_json.specs.declared.fault.PlanFault.TheVariants.{Field, TooLong, NotJson, Twice, NotLegal, MustAct}
use Rattle.plan_json.specs.declared.fields.Action.{Action}
use Rattle.plan_json.specs.declared.reading.TheConstants.{PLAN_KEYS}
use Rattle.plan_json.specs.Walk.{Walk, Test}
use Rattle.plan_json.specs.Actions.{action_from}

-- ---- the choices that actions name

abbrev pub is_same : Element → Element → Bool
is_same (Vm v) (Vm w) = v.0 == w.0
is_same (Vm v) (Node n) = false
is_same (Node n) (Vm v) = false
is_same (Node m) (Node n) = m.0 == n.0

-- the action of an element, if there is one
abbrev pub action_for : List Action → Element → Option Action
action_for actions e = find (λ action. is_same e action.element) actions

abbrev pub as_choice : Action → Choice
as_choice action = Act action.place action.start

-- the choice of an element: its action, and Idle where it has none
abbrev pub choice_for : List Action → Element → Choice
choice_for actions e = option_map_or as_choice (action_for actions e) Idle

-- the choices of the elements in their order
unfoldable pub choices_for : Instance → List Action → List Choice
choices_for p actions = map (λ x. choice_for actions (element_at (inventory_of p) x)) (range_with_len 0 (element_count (inventory_of p)))

-- ---- actions, one after the other

abbrev pub is_kind : Option Kind → Kind → Bool
is_kind None kind = false
is_kind (Some own) kind = kind_number own == kind_number kind

-- the action has the kind that its element takes at its place, and is a legal choice of it
abbrev pub is_legal_action : Instance → Action → Bool
is_legal_action p action = is_kind (kind_of p action.element action.place) action.kind && is_legal p action.element (as_choice action)

-- one more action, of an element that none is of
unfoldable pub action_step : Instance → List ℕ → ℕ → List Action → Data → Walk (List Action)
action_step p path place actions d = do
  action ← action_from (inventory_of p) d (item_path path place)
  wants (is_none (action_for actions action.element)) (Twice (key_path (item_path path place) (codes "element")))
  wants (is_legal_action p action) (NotLegal (item_path path place))
  Ok (actions ++ action ∷ [])

-- at most one action for each element that a problem may have
unfoldable pub actions_from : Instance → Test (List Action)
actions_from p d path = do
  values ← as_walk Field (list_of d path)
  wants (nat_le (length values) (max_machines + max_nodes)) (Field (fault_at path OutOfRange))
  each (action_step p path) 0 [] values

-- ---- elements that no action names

abbrev pub is_idle : Choice → Bool
is_idle Idle = true
is_idle (Act place start) = false

-- the element of that number is idle, and may not be
abbrev pub must_act : Instance → List Choice → ℕ → Bool
must_act p choices x = is_idle (slice_index_or choices x Idle) && not (is_legal p (element_at (inventory_of p) x) Idle)

-- the first such element
unfoldable pub first_to_act : Instance → List Choice → Option Element
first_to_act p choices = option_map (element_at (inventory_of p)) (find (must_act p choices) (range_with_len 0 (element_count (inventory_of p))))

abbrev pub none_to_act : Option Element → Walk (Unit {0})
none_to_act None = Ok tt
none_to_act (Some e) = Err (MustAct e)

-- the plan of the actions
unfoldable pub plan_with : Instance → List Action → Walk PlanChoices
plan_with p actions = do
  none_to_act (first_to_act p (choices_for p actions))
  Ok (parted p (choices_for p actions))

-- ---- the whole

unfoldable pub walk : Instance → Data → Walk PlanChoices
walk p d = do
  actions ← field_by Field (actions_from p) d root (codes "actions")
  only_keys Field (map (λ key. key.now) PLAN_KEYS) d root
  plan_with p actions

-- `null` is no plan
unfoldable pub plan_or_none : Instance → Data → Walk (Option PlanChoices)
plan_or_none p d = if is_some (as_null d) then Ok None else (walk p d >>= λ plan. Ok (Some plan))

unfoldable pub plan_of : Instance → List ℕ → Walk (Option PlanChoices)
plan_of p bytes = do
  wants (nat_le (length bytes) max_text_bytes) TooLong
  d ← ok_or (json_of bytes) NotJson
  plan_or_none p d
