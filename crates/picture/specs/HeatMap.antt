-- What the picture of a large plan is: lines for its actions, and how full the nodes are.
use Rattle.std.specs.Prelude.{◌≡◌, ℕ, ◌+◌, ◌||◌, Bool, nat_lt, List, length, map}
use Rattle.std.specs.List.{All, filter, range_with_len}
use Rattle.replay.specs.Events.{events}
use Rattle.show.specs.Prelude.{Choices, Instance, IsListing}
use Rattle.show.specs.declared.actions.Action.{Action}
use Rattle.picture.specs.Axis.{place_at, span_of}
use Rattle.picture.specs.Bars.{action_of_bar, stands}
use Rattle.picture.specs.Counts.{IsActingCurve, IsPoweredCurve}
use Rattle.picture.specs.Heats.{heats_of}
use Rattle.picture.specs.Picture.{is_shown}
use Rattle.picture.specs.declared.bars.Row.{Row}
use Rattle.picture.specs.declared.bars.Row.TheVariants.{Acts, Leaves, Nowhere}
use Rattle.picture.specs.declared.marks.Bar.{Bar}
use Rattle.picture.specs.declared.marks.HeatMap.{HeatMap}
use Rattle.picture.specs.declared.marks.HeatRow.{HeatRow}

-- ---- which plans are large

-- the nodes that are shown, in their order
abbrev pub shown_nodes : Instance → Choices → List Action → List ℕ
shown_nodes p plan actions = filter (is_shown p plan actions) (range_with_len 0 (length p.nodes))

-- more than 120 actions, or more than 40 nodes to show
abbrev pub is_large : Instance → Choices → List Action → Bool
is_large p plan actions = nat_lt 120 (length actions) || nat_lt 40 (length (shown_nodes p plan actions))

-- ---- lines of actions

-- the ends of a line are the places of the action's start and end
pub record IsLine (span y : ℕ) (bar : Bar) : Type 0 where
  pub left : bar.left ≡ place_at span bar.action.start
  pub right : bar.right ≡ place_at span bar.action.end
  pub top : bar.top ≡ y

-- one line for each action that stands in the row, in their order, all at one height
pub record AreLines (p : Instance) (plan : Choices) (actions : List Action) (row : Row) (span y : ℕ) (bars : List Bar) : Type 0 where
  pub each : map action_of_bar bars ≡ filter (stands p plan row) actions
  pub placed : All (IsLine span y) bars

-- ---- rows

-- lines of what acts on the node above its heat, and of what leaves it below, and how full it is at each instant
pub record IsHeatRow (p : Instance) (plan : Choices) (actions : List Action) (span : ℕ) (instants : List ℕ) (row : HeatRow) : Type 0 where
  pub bars : AreLines p plan actions (Acts row.node) span row.above row.bars.items
  pub twins : AreLines p plan actions (Leaves row.node) span row.below row.twins.items
  pub top : row.top ≡ row.above + 3
  pub foot : row.below ≡ row.top + row.tall
  pub heats : row.heats.items ≡ heats_of p plan row.node.0 instants

abbrev pub node_of_row : HeatRow → ℕ
node_of_row row = row.node.0

-- one row for each node that is shown, in their order
pub record AreHeatRows (p : Instance) (plan : Choices) (actions : List Action) (span : ℕ) (instants : List ℕ) (rows : List HeatRow) : Type 0 where
  pub nodes : map node_of_row rows ≡ shown_nodes p plan actions
  pub each : All (IsHeatRow p plan actions span instants) rows

-- what acts on no node stands in a line below the rows
pub record AreLooseLines (p : Instance) (plan : Choices) (actions : List Action) (span : ℕ) (loose : List Bar) : Type 0 where
  pub top : ℕ
  pub lines : AreLines p plan actions Nowhere span top loose

-- ---- the whole

-- the actions of the plan as lines on their nodes; and how many act, how many nodes are powered, and how full the nodes are at each
-- instant at which something starts or ends
pub record IsHeatMap (p : Instance) (plan : Choices) (heat_map : HeatMap) : Type 0 where
  pub actions : List Action
  pub listing : IsListing p plan actions
  pub span : heat_map.span ≡ span_of p actions
  pub acting : IsActingCurve actions (events p plan) heat_map.acting
  pub powered : IsPoweredCurve p plan (events p plan) heat_map.powered
  pub rows : AreHeatRows p plan actions heat_map.span (events p plan) heat_map.rows.items
  pub loose : AreLooseLines p plan actions heat_map.span heat_map.loose.items
