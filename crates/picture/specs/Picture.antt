-- What a picture of a plan is: its bars and its curves.
use Rattle.std.specs.Prelude.{◌≡◌, ℕ, ◌||◌, Bool, nat_le, List, length, map}
use Rattle.std.specs.List.{All, filter, list_any, range_with_len}
use Rattle.replay.specs.Events.{events}
use Rattle.show.specs.Prelude.{Choices, Instance, IsListing}
use Rattle.show.specs.declared.actions.Action.{Action}
use Rattle.picture.specs.Axis.{span_of}
use Rattle.picture.specs.Bars.{AreBars, stands}
use Rattle.picture.specs.Curves.{AreCurves}
use Rattle.picture.specs.declared.bars.Row.TheVariants.{Acts, Leaves, Nowhere}
use Rattle.picture.specs.declared.marks.Band.{Band}
use Rattle.picture.specs.declared.marks.Bar.{Bar}
use Rattle.picture.specs.declared.marks.Picture.{Picture}

-- ---- which nodes have a band

-- whether an action acts on a node, or leaves it
abbrev pub touches : Instance → Choices → ℕ → Action → Bool
touches p plan n a = stands p plan (Acts (record { 0 = n })) a || stands p plan (Leaves (record { 0 = n })) a

-- all nodes where they are few, else those that have a bar
abbrev pub is_shown : Instance → Choices → List Action → ℕ → Bool
is_shown p plan actions n = nat_le (length p.nodes) 12 || list_any (touches p plan n) actions

-- ---- bands

-- the bars of what acts on the node and of what leaves it, inside the band, and its curves
pub record IsBand (p : Instance) (plan : Choices) (actions : List Action) (span : ℕ) (instants : List ℕ) (band : Band) : Type 0 where
  pub bars : AreBars p plan actions (Acts band.node) span band.top band.tall band.bars.items
  pub twins : AreBars p plan actions (Leaves band.node) span band.top band.tall band.twins.items
  pub curves : AreCurves p plan band.node.0 instants band.curves.items

abbrev pub node_of_band : Band → ℕ
node_of_band band = band.node.0

-- one band for each node that is shown, in their order
pub record AreBands (p : Instance) (plan : Choices) (actions : List Action) (span : ℕ) (instants : List ℕ) (bands : List Band) : Type 0 where
  pub nodes : map node_of_band bands ≡ filter (is_shown p plan actions) (range_with_len 0 (length p.nodes))
  pub each : All (IsBand p plan actions span instants) bands

-- what acts on no node stands below the bands
pub record AreLoose (p : Instance) (plan : Choices) (actions : List Action) (span : ℕ) (loose : List Bar) : Type 0 where
  pub top : ℕ
  pub tall : ℕ
  pub bars : AreBars p plan actions Nowhere span top tall loose

-- ---- the whole

-- the actions of the plan as bars on their nodes, and the loads of the nodes at each instant at which something starts or ends
pub record IsPicture (p : Instance) (plan : Choices) (picture : Picture) : Type 0 where
  pub actions : List Action
  pub listing : IsListing p plan actions
  pub span : picture.span ≡ span_of p actions
  pub bands : AreBands p plan actions picture.span (events p plan) picture.bands.items
  pub loose : AreLoose p plan actions picture.span picture.loose.items
