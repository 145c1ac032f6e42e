-- One action of a plan.
use Rattle.std.specs.Prelude.{map, Option, Some, None, Ok, codes}
use Rattle.std.specs.Option.{ok_or}
use Rattle.json_text.specs.Prelude.{as_walk, fault_at, field_by, number_field, only_keys, optional_by, text_of, wants, ◌>>=◌, ◌>>◌}
use Rattle.slices.specs.Prelude.{element_named, Inventory, is_name, kind_of_word, max_horizon}
use Rattle.json_walk.specs.declared.fault.FaultKind.TheVariants.{OutOfRange, Unknown}
use Rattle.cluster.specs.declared.ids.Element.{Element}
use Rattle.cluster.specs.declared.ids.Element.TheVariants.{Vm, Node}
use Rattle.cluster.specs.declared.kinds.Kind.{Kind}
use Rattle.cluster.specs.declared.choices.Place.{Place}
use Rattle.cluster.specs.declared.choices.Place.TheVariants.{Nowhere, At}
use Rattle.plan_json.specs.declared.fault.PlanFault.TheVariants.{Field, NoSuch}
use Rattle.plan_json.specs.declared.fields.Action.{Action}
use Rattle.plan_json.specs.declared.fields.TheConstants.{ACTION_KEYS}
use Rattle.plan_json.specs.Walk.{Test}

-- the listed element that has the name
unfoldable pub listed_element : Inventory → Test Element
listed_element k d path = do
  name ← as_walk Field (text_of d path)
  wants (is_name name) (Field (fault_at path OutOfRange))
  ok_or (element_named k name) (NoSuch path)

-- only a node is a place
abbrev pub as_place : Element → Option Place
as_place (Vm v) = None
as_place (Node n) = Some (At n)

-- the listed node that has the name
unfoldable pub listed_place : Inventory → Test Place
listed_place k d path = do
  e ← listed_element k d path
  ok_or (as_place e) (NoSuch path)

-- the kind that has the word
unfoldable pub kind_from : Test Kind
kind_from d path = do
  word ← as_walk Field (text_of d path)
  ok_or (kind_of_word word) (Field (fault_at path Unknown))

-- an action; without a place it is nowhere
unfoldable pub action_from : Inventory → Test Action
action_from k d path = do
  element ← field_by Field (listed_element k) d path (codes "element")
  kind ← field_by Field kind_from d path (codes "kind")
  place ← optional_by Nowhere (listed_place k) d path (codes "place")
  start ← number_field Field 0 max_horizon d path (codes "start")
  only_keys Field (map (λ key. key.now) ACTION_KEYS) d path
  Ok (record { element = element; kind = kind; place = place; start = start })
