-- The text of a picture of a plan, in bands or as a heat map.
use Rattle.base.proofs.Public.{◌≡◌, ℕ, Bool, true, false, List}
use Rattle.picture.specs.Prelude.{Choices, heat_map_text, Instance, IsDrawn, IsDrawnAsHeatMap, IsDrawnFor, IsDrawnInBands, IsHeatMap, is_large, IsListing, IsPicture, picture_text}
use Rattle.show.specs.declared.actions.Action.{Action}
use Rattle.picture.specs.declared.marks.HeatMap.{HeatMap}
use Rattle.picture.specs.declared.marks.Picture.{Picture}

pub text_in_bands : (p : Instance) (plan : Choices) (picture : Picture) (text : List ℕ) → IsPicture p plan picture → text ≡ picture_text picture → IsDrawnInBands p plan text
text_in_bands p plan picture text is printed = record { picture = picture; is = is; printed = printed }

pub text_as_heat_map : (p : Instance) (plan : Choices) (heat_map : HeatMap) (text : List ℕ) → IsHeatMap p plan heat_map → text ≡ heat_map_text heat_map → IsDrawnAsHeatMap p plan text
text_as_heat_map p plan heat_map text is printed = record { heat_map = heat_map; is = is; printed = printed }

-- a plan that is large, or is not, with its picture
pub drawn_large : (p : Instance) (plan : Choices) (actions listed : List Action) (text : List ℕ) → IsListing p plan listed → actions ≡ listed → is_large p plan actions ≡ true → IsDrawnAsHeatMap p plan text → IsDrawn p plan text
drawn_large p plan actions listed text listing is large drawn = record { actions = actions; listing = rw is listing; drawn = rw large drawn }

pub drawn_small : (p : Instance) (plan : Choices) (actions listed : List Action) (text : List ℕ) → IsListing p plan listed → actions ≡ listed → is_large p plan actions ≡ false → IsDrawnInBands p plan text → IsDrawn p plan text
drawn_small p plan actions listed text listing is small drawn = record { actions = actions; listing = rw is listing; drawn = rw small drawn }
