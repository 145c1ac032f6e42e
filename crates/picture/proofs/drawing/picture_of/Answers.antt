use Rattle.base.proofs.Public.{List, length, ap, ◌∙◌, arith}
use Rattle.show.specs.declared.actions.Action.{Action}
use Rattle.picture.specs.Prelude.{choices_of}
use Rattle.picture.proofs.Whole.{few_elements, picture_made}
use Rattle.picture.proofs.drawing.picture_of.Goals as goal

pub draw-requires-clause-few : goal.draw-requires-clause-few
draw-requires-clause-few c =
    omega (arith, ap (λ (l : List Action). length l) c.deref.ensures.value, c.in_ok-actions.ensures.few, few_elements c.args.p.now.given c.args.p.now.sound)

pub returns : goal.returns
returns c = record {
  picture = picture_made c.args.p.now.given (choices_of c.args.plan.now) c.in_ok-picture.picture _ _ _ c.in_ok-actions.ensures.listing c.deref.ensures.value (c.deref-2.ensures.value ∙ c.in_ok-instants.ensures.events)
      c.in_ok-picture.ensures.span c.in_ok-picture.ensures.bands c.in_ok-picture.ensures.loose;
}
