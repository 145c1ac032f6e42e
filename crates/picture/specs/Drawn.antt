-- The text of a plan's picture: in bands, or, of a large plan, as a heat map.
use Rattle.std.specs.Prelude.{◌≡◌, ℕ, Bool, true, false, List}
use Rattle.show.specs.Prelude.{Choices, Instance, IsListing}
use Rattle.show.specs.declared.actions.Action.{Action}
use Rattle.picture.specs.HeatMap.{is_large, IsHeatMap}
use Rattle.picture.specs.HeatText.{heat_map_text}
use Rattle.picture.specs.Picture.{IsPicture}
use Rattle.picture.specs.Text.{picture_text}
use Rattle.picture.specs.declared.marks.HeatMap.{HeatMap}
use Rattle.picture.specs.declared.marks.Picture.{Picture}

-- a text that is the text of a picture of the plan in bands
pub record IsDrawnInBands (p : Instance) (plan : Choices) (text : List ℕ) : Type 0 where
  pub picture : Picture
  pub is : IsPicture p plan picture
  pub printed : text ≡ picture_text picture

-- a text that is the text of a heat map of the plan
pub record IsDrawnAsHeatMap (p : Instance) (plan : Choices) (text : List ℕ) : Type 0 where
  pub heat_map : HeatMap
  pub is : IsHeatMap p plan heat_map
  pub printed : text ≡ heat_map_text heat_map

abbrev pub IsDrawnFor : Bool → Instance → Choices → List ℕ → Type 0
IsDrawnFor false p plan text = IsDrawnInBands p plan text
IsDrawnFor true p plan text = IsDrawnAsHeatMap p plan text

-- a text that is the text of the picture of the plan: a heat map where the plan is large, else bands
pub record IsDrawn (p : Instance) (plan : Choices) (text : List ℕ) : Type 0 where
  pub actions : List Action
  pub listing : IsListing p plan actions
  pub drawn : IsDrawnFor (is_large p plan actions) p plan text
