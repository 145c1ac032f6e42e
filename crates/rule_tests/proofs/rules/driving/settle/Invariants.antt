use Rattle.std.proofs.Common.{◌≡◌}
use Rattle.prop_core.specs.Levels.{AllFollow, IsTrailOf}
use Rattle.rule_tests.proofs.rules.driving.settle.Given as goal

abbrev pub invariant-loop : goal.invariant-loop
invariant-loop g l = record {
  trail : IsTrailOf l.p.given l.trail;
  marks : l.trail.marks ≡ l.fn.trail.marks;
  follow : AllFollow (λ b. (goal.Propagator-dyn g (b.vtable, b.value)).meaning b.value) l.p.given l.trail l.rules.items;
}
