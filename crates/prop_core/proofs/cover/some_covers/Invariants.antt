use Rattle.prop_core.proofs.Prelude.{◌≡◌, take, false, is_covered}
use Rattle.prop_core.proofs.cover.some_covers.Given as goal

abbrev pub invariant-loop-rule : goal.invariant-loop-rule
invariant-loop-rule g l = is_covered (λ b. (goal.Propagator-dyn g (b.vtable, b.value)).meaning b.value) (take l.rule-index l.rules.items) l.kind ≡ false
