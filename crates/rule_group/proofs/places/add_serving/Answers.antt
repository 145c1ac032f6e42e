use Rattle.rule_group.proofs.Prelude.{inl, inr}
use Rattle.rule_group.proofs.places.add_serving.Goals as goal

pub loop-i-init : goal.loop-i-init
loop-i-init c = λ j h. inl h

pub loop-i-preserved : goal.loop-i-preserved
loop-i-preserved c = λ j h. elim (c.add_if_serving.ensures j h) [ inl old ↦ c.loop-i.invariant j old | inr new ↦ inr new ]
