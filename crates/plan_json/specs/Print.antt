-- The text of a plan.
use Rattle.std.specs.Prelude.{ℕ, List, [], ◌∷◌, ◌++◌, Option, Some, None, codes}
use Rattle.std.specs.List.{flat_map, range_with_len}
use Rattle.std.specs.Option.{option_map_or}
use Rattle.slices.specs.Prelude.{choices_of, element_at, element_count, Instance, inventory_of, kind_of, kind_word, name_of, PlanChoices}
use Rattle.cluster.specs.declared.choices.Choice.{Choice}
use Rattle.cluster.specs.declared.choices.Choice.TheVariants.{Idle, Act}
use Rattle.cluster.specs.declared.ids.Element.{Element}
use Rattle.cluster.specs.declared.ids.Element.TheVariants.{Node}
use Rattle.cluster.specs.declared.choices.Place.{Place}
use Rattle.cluster.specs.declared.choices.Place.TheVariants.{Nowhere, At}
use Rattle.serde_json.specs.Data.{Data, null, string, number, unsigned, array, object, Members, no_members, member}
use Rattle.serde_json.specs.View.{items_of}
use Rattle.serde_json.specs.Written.{compact_text}

abbrev pub name_data : Instance → Element → Data
name_data p e = string (name_of (inventory_of p) e)

-- the word of the kind that the element takes at the place
abbrev pub word_at : Instance → Element → Place → List ℕ
word_at p e place = option_map_or kind_word (kind_of p e place) []

-- where the action is, if it is on a node, and what follows
abbrev pub place_member : Instance → Place → Members → Members
place_member p Nowhere rest = rest
place_member p (At n) rest = member (codes "place") (name_data p (Node n)) rest

-- one action: its keys ascend
unfoldable pub action_data : Instance → Element → Place → ℕ → Data
action_data p e place start =
    object (member (codes "element") (name_data p e)
    (member (codes "kind") (string (word_at p e place))
    (place_member p place
    (member (codes "start") (number (unsigned start)) no_members))))

-- the action of a choice, if it is one
abbrev pub choice_data : Instance → Element → Choice → List Data
choice_data p e Idle = []
choice_data p e (Act place start) = action_data p e place start ∷ []

abbrev pub element_data : Instance → PlanChoices → ℕ → List Data
element_data p plan x = choice_data p (element_at (inventory_of p) x) (choices_of plan (element_at (inventory_of p) x))

-- all actions in the order of the elements
unfoldable pub actions_data : Instance → PlanChoices → List Data
actions_data p plan = flat_map (element_data p plan) (range_with_len 0 (element_count (inventory_of p)))

unfoldable pub plan_data : Instance → Option PlanChoices → Data
plan_data p None = null
plan_data p (Some plan) = object (member (codes "actions") (array (items_of (actions_data p plan))) no_members)

-- compact, and one newline
unfoldable pub plan_text : Instance → Option PlanChoices → List ℕ
plan_text p plan = compact_text (plan_data p plan) ++ 10 ∷ []
