-- Where bars stand.
use Rattle.std.specs.Prelude.{◌≡◌, ℕ, ◌+◌, ◌≤◌, Bool, false, not, ◌&&◌, ◌==◌, List, map, Option, Some, None, is_none}
use Rattle.std.specs.List.{All, filter}
use Rattle.cluster.specs.declared.choices.Choice.{Choice}
use Rattle.cluster.specs.declared.ids.Element.{Element}
use Rattle.cluster.specs.declared.ids.Element.TheVariants.{Vm, Node}
use Rattle.cluster.specs.declared.ids.NodeId.{NodeId}
use Rattle.show.specs.Prelude.{Choices, element_at, host_of_element, Instance, inventory_of, target_of}
use Rattle.show.specs.declared.actions.Action.{Action}
use Rattle.picture.specs.Axis.{place_at}
use Rattle.picture.specs.declared.bars.Row.{Row}
use Rattle.picture.specs.declared.bars.Row.TheVariants.{Acts, Leaves, Nowhere}
use Rattle.picture.specs.declared.marks.Bar.{Bar}

abbrev pub first_of : Option NodeId → Option NodeId → Option NodeId
first_of None other = other
first_of (Some n) other = Some n

-- the node on which an action acts: a node on itself, a machine where it goes, or else where it is
abbrev pub acting_node : Instance → Element → Choice → Option NodeId
acting_node p (Node n) c = Some n
acting_node p (Vm v) c = first_of (target_of c) (host_of_element p (Vm v))

abbrev pub is_node : ℕ → Option NodeId → Bool
is_node n None = false
is_node n (Some m) = m.0 == n

abbrev pub goes_elsewhere : ℕ → Option NodeId → Bool
goes_elsewhere n None = false
goes_elsewhere n (Some m) = not (m.0 == n)

abbrev pub in_row : Instance → Row → Element → Choice → Bool
in_row p (Acts n) e c = is_node n.0 (acting_node p e c)
in_row p (Leaves n) e c = is_node n.0 (host_of_element p e) && goes_elsewhere n.0 (target_of c)
in_row p Nowhere e c = is_none (acting_node p e c)

-- whether the bar of an action stands in a row: it acts on the node, it goes from the node to another one, or it acts on none
unfoldable pub stands : Instance → Choices → Row → Action → Bool
stands p plan row a = let e = element_at (inventory_of p) a.number in in_row p row e (plan e)

-- the ends of a bar are the places of the action's start and end, and it stands between a top and so far below
pub record IsPlaced (span top tall : ℕ) (bar : Bar) : Type 0 where
  pub left : bar.left ≡ place_at span bar.action.start
  pub right : bar.right ≡ place_at span bar.action.end
  pub below : top ≤ bar.top
  pub within : bar.top + 16 ≤ top + tall

abbrev pub action_of_bar : Bar → Action
action_of_bar bar = bar.action

-- one bar for each action that stands in the row, in their order, each in its place
pub record AreBars (p : Instance) (plan : Choices) (actions : List Action) (row : Row) (span top tall : ℕ) (bars : List Bar) : Type 0 where
  pub each : map action_of_bar bars ≡ filter (stands p plan row) actions
  pub placed : All (IsPlaced span top tall) bars
