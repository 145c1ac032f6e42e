use Rattle.picture.proofs.Drawn.{text_in_bands}
use Rattle.picture.proofs.forms.draw_in_bands.Goals as goal

pub returns : goal.returns
returns c = text_in_bands _ _ c.in_ok-picture.picture c.in_ok-text.text.items c.in_ok-picture.ensures.picture c.in_ok-text.ensures
