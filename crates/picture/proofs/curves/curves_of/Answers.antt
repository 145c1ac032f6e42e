use Rattle.base.proofs.Public.{◌++◌, ◌∷◌, [], ◌∙◌, All-push, range_more, sym}
use Rattle.picture.specs.Prelude.{choices_of, IsCurve, resource_of_curve}
use Rattle.picture.proofs.Lists.{map_push}
use Rattle.picture.proofs.curves.curves_of.Goals as goal

pub loop-r-preserved : goal.loop-r-preserved
loop-r-preserved c = record {
  resources = rw c.in_ok-push.ensures.items (map_push resource_of_curve c.loop-r.curves.items c.in_ok-curve.curve ∙ (λ i. c.loop-r.invariant.resources i ++ (c.in_ok-curve.ensures.resource i ∷ [])) ∙ sym (range_more c.loop-r.r));
  loads = rw c.in_ok-push.ensures.items (All-push (IsCurve c.args.p.now.given (choices_of c.args.plan.now) c.args.n.0 c.args.instants.now) c.loop-r.curves.items c.in_ok-curve.curve c.loop-r.invariant.loads c.in_ok-curve.ensures.curve);
}
