use Rattle.base.proofs.Public.{sym, ◌∙◌}
use Rattle.picture.proofs.Drawn.{drawn_large, drawn_small}
use Rattle.picture.proofs.forms.draw_plan.Goals as goal

pub returns-then-is_large : goal.returns-then-is_large
returns-then-is_large c =
    drawn_large _ _ _ _ _ c.in_ok-actions.ensures.listing c.deref.ensures.value (sym c.is_large.ensures ∙ c.if-is_large.true) c.in_ok-text.ensures

pub returns : goal.returns
returns c =
    drawn_small _ _ _ _ _ c.in_ok-actions.ensures.listing c.deref.ensures.value (sym c.is_large.ensures ∙ c.if-is_large.false) c.in_ok-text-2.ensures
