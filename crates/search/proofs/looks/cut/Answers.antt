use Rattle.std.proofs.Common.{[], ◌∷◌, ap, rules}
use Rattle.search.specs.Prelude.{bytes_of, Cut}
use Rattle.search.proofs.{NamedLemmas.cut_named, TextLemmas.leaves_line, TextLemmas.leaves_lined, TextLemmas.leaves_then, TextLemmas.one_named, TextLemmas.text_line}
use Rattle.search.proofs.looks.cut.Goals as goal

pub step-requires-clause-step : goal.step-requires-clause-step
step-requires-clause-step g c = cut_named _ c.args.p.now.sound _ c.args.element c.args.part c.args.reason c.requires.ground.trail.region.legal c.requires.holds (search rules)

pub returns-in_err-step-clause-writes : goal.returns-in_err-step-clause-writes
returns-in_err-step-clause-writes g c =
    let named = cut_named _ c.args.p.now.sound _ c.args.element c.args.part c.args.reason c.requires.ground.trail.region.legal c.requires.holds (search rules) in
    record { name = search rules; kept = search rules; cause = search rules; front = leaves_line _ _ _ _ (Cut c.args.element c.args.part c.args.reason) named c.step.ensures.cut c.step.ensures.stays }

pub returns-in_err-narrow_all-clause-writes : goal.returns-in_err-narrow_all-clause-writes
returns-in_err-narrow_all-clause-writes g c =
    let named = cut_named _ c.args.p.now.sound _ c.args.element c.args.part c.args.reason c.requires.ground.trail.region.legal c.requires.holds (search rules) in
    record { name = search rules; kept = search rules; cause = search rules; front = leaves_lined _ _ _ _ (Cut c.args.element c.args.part c.args.reason) named (λ t. ap bytes_of (c.in_ok-step.ensures.grown t)) }

pub returns-in_err-fail-clause-writes : goal.returns-in_err-fail-clause-writes
returns-in_err-fail-clause-writes g c =
    let named = cut_named _ c.args.p.now.sound _ c.args.element c.args.part c.args.reason c.requires.ground.trail.region.legal c.requires.holds (search rules) in
    record { name = search rules; kept = search rules; cause = search rules; front = leaves_then _ _ _ _ _ (Cut c.args.element c.args.part c.args.reason ∷ []) (one_named _ (Cut c.args.element c.args.part c.args.reason) named) (λ t. text_line _ _ _ (Cut c.args.element c.args.part c.args.reason) (ap bytes_of (c.in_ok-step.ensures.grown t))) (rw c.in_ok-step.ensures.writer at c.fail.ensures.writes.front) }

pub returns-then-is_empty-clause-writes : goal.returns-then-is_empty-clause-writes
returns-then-is_empty-clause-writes g c =
    let named = cut_named _ c.args.p.now.sound _ c.args.element c.args.part c.args.reason c.requires.ground.trail.region.legal c.requires.holds (search rules) in
    record { name = search rules; kept = search rules; cause = search rules; front = leaves_then _ _ _ _ _ (Cut c.args.element c.args.part c.args.reason ∷ []) (one_named _ (Cut c.args.element c.args.part c.args.reason) named) (λ t. text_line _ _ _ (Cut c.args.element c.args.part c.args.reason) (ap bytes_of (c.in_ok-step.ensures.grown t))) (rw c.in_ok-step.ensures.writer at c.in_ok-fail.ensures.writes.front) }

pub returns-clause-writes : goal.returns-clause-writes
returns-clause-writes g c =
    let named = cut_named _ c.args.p.now.sound _ c.args.element c.args.part c.args.reason c.requires.ground.trail.region.legal c.requires.holds (search rules) in
    record { name = search rules; kept = search rules; cause = search rules; front = leaves_lined _ _ _ _ (Cut c.args.element c.args.part c.args.reason) named (λ t. ap bytes_of (c.in_ok-step.ensures.grown t)) }
