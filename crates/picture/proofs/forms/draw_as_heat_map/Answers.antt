use Rattle.picture.proofs.Drawn.{text_as_heat_map}
use Rattle.picture.proofs.forms.draw_as_heat_map.Goals as goal

pub returns : goal.returns
returns c = text_as_heat_map _ _ c.in_ok-heat_map.heat_map c.in_ok-text.text.items c.in_ok-heat_map.ensures.heat_map c.in_ok-text.ensures
