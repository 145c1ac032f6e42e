use Rattle.rule_group.proofs.Prelude.{sym, ◌∙◌}
use Rattle.rule_group.proofs.places.serves.Goals as goal

pub returns : goal.returns
returns c = λ yes. record { listed = sym c.has.ensures ∙ c.if-not-has.false; count = c.requires.count; has = c.has_spots.ensures yes }
