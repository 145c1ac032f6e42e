-- A picture, put together.
use Rattle.base.proofs.Public.{◌≡◌, ℕ, ◌≤◌, List, arith}
use Rattle.slices.specs.Prelude.{IsInstance}
use Rattle.picture.specs.Prelude.{AreBands, AreBars, AreHeatRows, AreLines, AreLooseLines, AreLoose, Choices, element_count, events, Instance, inventory_of, IsActingCurve, IsHeatMap, IsListing, IsPicture, IsPoweredCurve, span_of}
use Rattle.show.specs.declared.actions.Action.{Action}
use Rattle.picture.specs.declared.bars.Row.TheVariants.{Nowhere}
use Rattle.picture.specs.declared.marks.Bar.{Bar}
use Rattle.picture.specs.declared.marks.HeatMap.{HeatMap}
use Rattle.picture.specs.declared.marks.Picture.{Picture}

-- a problem has at most 4,608 elements
pub few_elements : (p : Instance) → IsInstance p → element_count (inventory_of p) ≤ 4608
few_elements p sound = omega (arith, sound.inventory.few_machines, sound.inventory.few_nodes)

-- bars below a top are bars below the bands
pub loose_at : (p : Instance) (plan : Choices) (actions : List Action) (span top tall : ℕ) (bars : List Bar) → AreBars p plan actions Nowhere span top tall bars → AreLoose p plan actions span bars
loose_at p plan actions span top tall bars h = record { top = top; tall = tall; bars = h }

-- lines at a height are lines below the rows
pub loose_lines_at : (p : Instance) (plan : Choices) (actions : List Action) (span y : ℕ) (bars : List Bar) → AreLines p plan actions Nowhere span y bars → AreLooseLines p plan actions span bars
loose_lines_at p plan actions span y bars h = record { top = y; lines = h }

-- bands and loose bars of the listing of a plan are a picture of it
pub picture_made : (p : Instance) (plan : Choices) (picture : Picture) (actions listed : List Action) (instants : List ℕ) → IsListing p plan listed → actions ≡ listed → instants ≡ events p plan → picture.span ≡ span_of p actions → AreBands p plan actions picture.span instants picture.bands.items → AreLoose p plan actions picture.span picture.loose.items → IsPicture p plan picture
picture_made p plan picture actions listed instants listing is turns span bands loose = record {
  actions = actions;
  listing = rw is listing;
  span = span;
  bands = rw turns at bands;
  loose = loose;
}

-- rows and loose lines of the listing of a plan are a heat map of it
pub heat_map_made : (p : Instance) (plan : Choices) (heat_map : HeatMap) (actions listed : List Action) (instants : List ℕ) → IsListing p plan listed → actions ≡ listed → instants ≡ events p plan → heat_map.span ≡ span_of p actions → IsActingCurve actions instants heat_map.acting → IsPoweredCurve p plan instants heat_map.powered → AreHeatRows p plan actions heat_map.span instants heat_map.rows.items → AreLooseLines p plan actions heat_map.span heat_map.loose.items → IsHeatMap p plan heat_map
heat_map_made p plan heat_map actions listed instants listing is turns span acting powered rows loose = record {
  actions = actions;
  listing = rw is listing;
  span = span;
  acting = rw turns at acting;
  powered = rw turns at powered;
  rows = rw turns at rows;
  loose = loose;
}
