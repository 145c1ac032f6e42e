use Rattle.std.proofs.Common.{◌∙◌, ap, refl, rules}
use Rattle.search.specs.Prelude.{bytes_of, Decide, inside, Marked, sets}
use Rattle.trees.proofs.Public.{same_sets}
use Rattle.search.proofs.{LeafLemmas.split_works, NamedLemmas.split_named, TextLemmas.leaves_line, TextLemmas.leaves_lined, TextLemmas.text_line, WorkLemmas.rule_trans}
use Rattle.search.proofs.leaves.split.Goals as goal

pub step-requires-clause-step : goal.step-requires-clause-step
step-requires-clause-step g c = split_named _ _ c.choose-element.result.0 c.choose-element.result.1 c.requires.ground.trail.region.legal (rw c.region.ensures at c.choose-element.ensures) (search rules)

pub returns-in_err-step-clause-writes : goal.returns-in_err-step-clause-writes
returns-in_err-step-clause-writes g c =
    let named = split_named _ _ c.choose-element.result.0 c.choose-element.result.1 c.requires.ground.trail.region.legal (rw c.region.ensures at c.choose-element.ensures) (search rules) in
    record { name = search rules; kept = search rules; cause = search rules; front = leaves_line _ _ _ _ (Decide c.choose-element.result.0 c.choose-element.result.1) named c.step.ensures.cut c.step.ensures.stays }

pub returns-in_err-mark_levels-clause-writes : goal.returns-in_err-mark_levels-clause-writes
returns-in_err-mark_levels-clause-writes g c =
    let named = split_named _ _ c.choose-element.result.0 c.choose-element.result.1 c.requires.ground.trail.region.legal (rw c.region.ensures at c.choose-element.ensures) (search rules) in
    record { name = search rules; kept = search rules; cause = search rules; front = leaves_lined _ _ _ _ (Decide c.choose-element.result.0 c.choose-element.result.1) named (λ t. ap bytes_of (c.in_ok-step.ensures.grown t)) }

pub returns-in_err-narrow_all-clause-writes : goal.returns-in_err-narrow_all-clause-writes
returns-in_err-narrow_all-clause-writes g c =
    let named = split_named _ _ c.choose-element.result.0 c.choose-element.result.1 c.requires.ground.trail.region.legal (rw c.region.ensures at c.choose-element.ensures) (search rules) in
    record { name = search rules; kept = search rules; cause = search rules; front = leaves_lined _ _ _ _ (Decide c.choose-element.result.0 c.choose-element.result.1) named (λ t. ap bytes_of (c.in_ok-step.ensures.grown t)) }

pub returns-in_err-narrow_all-clause-same : goal.returns-in_err-narrow_all-clause-same
returns-in_err-narrow_all-clause-same g c = rule_trans _ _ _ _ c.in_ok-mark_levels.ensures.same c.narrow_all.ensures.same

pub returns-clause-writes : goal.returns-clause-writes
returns-clause-writes g c =
    let named = split_named _ _ c.choose-element.result.0 c.choose-element.result.1 c.requires.ground.trail.region.legal (rw c.region.ensures at c.choose-element.ensures) (search rules) in
    record { name = search rules; kept = search rules; cause = search rules; front = leaves_lined _ _ _ _ (Decide c.choose-element.result.0 c.choose-element.result.1) named (λ t. ap bytes_of (c.in_ok-step.ensures.grown t)) }

pub returns-clause-same : goal.returns-clause-same
returns-clause-same g c = rule_trans _ _ _ _ c.in_ok-mark_levels.ensures.same c.in_ok-narrow_all.ensures.same

pub returns-clause-split : goal.returns-clause-split
returns-clause-split g c =
    let s = rw c.region.ensures at c.choose-element.ensures in
    let m = c.in_ok-mark_levels.ensures in
    let n = c.in_ok-narrow_all.ensures in
    record {
      parted = record { some = c.requires.clear.closed.some; split = s };
      region = same_sets _ _ (λ e. n.sets e ∙ ap (λ (v : Marked). inside c.choose-element.result.0 c.choose-element.result.1 (sets v.region) e) m.trail);
      marks = n.marks ∙ ap (λ (v : Marked). v.marks) m.trail;
      spent = refl;
      works = λ budget room. split_works _ _ _ c.args.progress.now _ _ _ _ _ _ c.args.ground.now.trail.region c.choose-element.result.0 c.choose-element.result.1 c.requires.ground.trail.region.sized c.requires.clear c.requires.free s (split_named _ _ c.choose-element.result.0 c.choose-element.result.1 c.requires.ground.trail.region.legal s (search rules)) refl
          (λ t. text_line _ _ _ (Decide c.choose-element.result.0 c.choose-element.result.1) (ap bytes_of (c.in_ok-step.ensures.grown t))) m.same n.same budget room;
    }
