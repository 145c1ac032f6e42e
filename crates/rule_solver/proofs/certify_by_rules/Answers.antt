use Rattle.std.proofs.Common.{refl}
use Rattle.rule_solver.proofs.Covering.{six_boxes}
use Rattle.rule_solver.proofs.certify_by_rules.Goals as goal

pub certify-requires-clause-covered : goal.certify-requires-clause-covered
certify-requires-clause-covered g c = six_boxes _ _ _ _ _ _ _ _ _ _ _ _ _ _ _ _ _ _ _ _ c.new-rules.ensures.items c.in_ok-push.ensures.items c.in_ok-push-2.ensures.items c.in_ok-push-3.ensures.items c.in_ok-push-4.ensures.items c.in_ok-push-5.ensures.items c.in_ok-push-6.ensures.items
    (c.into_dyn_box.ensures.0, λ y. refl) (c.into_dyn_box-in_ok-new-2.ensures.0, λ y. refl) (c.into_dyn_box-in_ok-new-3.ensures.0, λ y. refl) (c.into_dyn_box-in_ok-new-4.ensures.0, λ y. refl) (c.into_dyn_box-in_ok-new-5.ensures.0, λ y. refl) (c.into_dyn_box-in_ok-new-6.ensures.0, λ y. refl)
