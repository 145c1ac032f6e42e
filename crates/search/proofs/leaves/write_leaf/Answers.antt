use Rattle.std.proofs.Common.{◌∙◌, ap, refl, rules}
use Rattle.search.specs.Prelude.{bytes_of, Left, Plan}
use Rattle.search.proofs.{LeafLemmas.leaf_left, LeafLemmas.leaf_plan, TextLemmas.leaves_line, TextLemmas.leaves_lined, TextLemmas.leaves_none, TextLemmas.text_line}
use Rattle.search.proofs.leaves.write_leaf.Goals as goal

pub returns-in_err-plan-clause-writes : goal.returns-in_err-plan-clause-writes
returns-in_err-plan-clause-writes g c = record { name = search rules; kept = search rules; cause = search rules; front = leaves_none _ _ _ }

pub returns-in_err-step-clause-writes : goal.returns-in_err-step-clause-writes
returns-in_err-step-clause-writes g c = record { name = search rules; kept = search rules; cause = search rules; front = leaves_line _ _ _ _ (Plan c.sum-sum.result) (search rules) c.step.ensures.cut c.step.ensures.stays }

pub returns-then-is_fixed-clause-writes : goal.returns-then-is_fixed-clause-writes
returns-then-is_fixed-clause-writes g c = record { name = search rules; kept = search rules; cause = search rules; front = leaves_lined _ _ _ _ (Plan c.sum-sum.result) (search rules) (λ t. ap bytes_of (c.in_ok-step.ensures.grown t)) }

pub returns-then-is_fixed-clause-leaf : goal.returns-then-is_fixed-clause-leaf
returns-then-is_fixed-clause-leaf g c =
    leaf_plan _ _ _ _ _ _ _ _ c.sum-sum.result (c.sum-sum.ensures ∙ c.requires.ground.top) c.requires.clear c.args.p.now.sound (search rules) c.in_ok-plan.plan c.in_ok-plan.ensures.plan (rw c.region-then-is_fixed.ensures at c.in_ok-plan.ensures.only) refl
    (λ t. text_line _ _ _ (Plan c.sum-sum.result) (ap bytes_of (c.in_ok-step.ensures.grown t)))

pub returns-in_err-step-2-clause-writes : goal.returns-in_err-step-2-clause-writes
returns-in_err-step-2-clause-writes g c = record { name = search rules; kept = search rules; cause = search rules; front = leaves_line _ _ _ _ Left tt c.step-then-progress-budget.ensures.cut c.step-then-progress-budget.ensures.stays }

pub returns-then-progress-budget-clause-writes : goal.returns-then-progress-budget-clause-writes
returns-then-progress-budget-clause-writes g c = record { name = search rules; kept = search rules; cause = search rules; front = leaves_lined _ _ _ _ Left tt (λ t. ap bytes_of (c.in_ok-step-2.ensures.grown t)) }

pub returns-then-progress-budget-clause-leaf : goal.returns-then-progress-budget-clause-leaf
returns-then-progress-budget-clause-leaf g c =
    leaf_left _ _ _ _ _ _ _ _ c.sum-sum.result (c.sum-sum.ensures ∙ c.requires.ground.top) c.requires.clear c.requires.ground.trail.region.sized (λ f. let e = c.if-is_fixed.ensures.1 (rw c.region.ensures f) in cc) c.if-progress-budget.true _ c.lower.ensures refl
    (λ t. text_line _ _ _ Left (ap bytes_of (c.in_ok-step-2.ensures.grown t)))

pub returns-clause-leaf : goal.returns-clause-leaf
returns-clause-leaf g c = record { progress = refl; text = λ t. refl; free = λ f. (let e = c.if-is_fixed.ensures.1 (rw c.region.ensures f) in cc); room = c.if-progress-budget.false }
