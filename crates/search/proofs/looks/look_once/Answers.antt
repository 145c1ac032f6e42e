use Rattle.std.proofs.Common.{◌∙◌, ap, rules}
use Rattle.search.specs.Prelude.{bytes_of, sets}
use Rattle.prop_core.proofs.Public.{all_asked}
use Rattle.trees.proofs.Public.{same_sets}
use Rattle.search.proofs.LookLemmas.{asked_told, look_bound, look_clear, look_cut, look_empty, look_fail}
use Rattle.search.proofs.{NamedLemmas.cut_named, RegionLemmas.fewer_left, WorkLemmas.rise_none, WorkLemmas.works_none}
use Rattle.search.proofs.looks.look_once.Goals as goal

pub returns-then-is_reached-clause-works : goal.returns-then-is_reached-clause-works
returns-then-is_reached-clause-works g c =
    look_bound _ _ _ c.args.progress.now _ _ _ _ _ c.sum.result (c.sum.ensures ∙ c.requires.ground.top) (c.is_reached.ensures.yes c.if-is_reached.true) (λ t. ap bytes_of (c.in_ok-fail.ensures.written t)) (rise_none _ _)

pub returns-in-Quiet-clause-follow : goal.returns-in-Quiet-clause-follow
returns-in-Quiet-clause-follow g c = all_asked _ _ _ _ _ c.requires.follow (rw c.region.ensures at c.in_ok-ask_all.ensures.asked)

pub returns-in-Quiet-clause-clear : goal.returns-in-Quiet-clause-clear
returns-in-Quiet-clause-clear g c =
    let a = rw (c.in-Quiet.is, c.region.ensures) at c.in_ok-ask_all.ensures.answer in
    let asked = rw c.region.ensures at c.in_ok-ask_all.ensures.asked in
    λ _. look_clear _ _ _ _ c.sum.result _ _ c.requires.covered asked a c.requires.some (c.sum.ensures ∙ c.requires.ground.top) (c.is_reached.ensures.no c.if-is_reached.false)

pub returns-in-Quiet-clause-works : goal.returns-in-Quiet-clause-works
returns-in-Quiet-clause-works g c =
    let s = rw c.in-Quiet.is at c.in_ok-ask_all.ensures.given in
    λ budget. works_none _ _ budget _ c.args.progress.now _ _ _ _ s

pub returns-in_ok-fail-in-Fail-clause-follow : goal.returns-in_ok-fail-in-Fail-clause-follow
returns-in_ok-fail-in-Fail-clause-follow g c = all_asked _ _ _ _ _ c.requires.follow (rw c.region.ensures at c.in_ok-ask_all.ensures.asked)

pub returns-in_ok-fail-in-Fail-clause-works : goal.returns-in_ok-fail-in-Fail-clause-works
returns-in_ok-fail-in-Fail-clause-works g c =
    let s = rw c.in-Fail.is at c.in_ok-ask_all.ensures.given in
    let f = rw (c.in-Fail.is, c.region.ensures) at c.in_ok-ask_all.ensures.answer in
    look_fail _ _ _ c.args.progress.now _ _ _ _ _ c.args.p.now.sound c.in-Fail.reason f (λ t. ap bytes_of (c.in_ok-fail-in-Fail.ensures.written t)) s

pub cut-requires-clause-follow : goal.cut-requires-clause-follow
cut-requires-clause-follow g c = all_asked _ _ _ _ _ c.requires.follow (rw c.region.ensures at c.in_ok-ask_all.ensures.asked)

pub returns-then-not-is_left-clause-works : goal.returns-then-not-is_left-clause-works
returns-then-not-is_left-clause-works g c =
    let done = c.in_ok-is_left-in-Cut.ensures in
    let h = rw (c.in-Cut.is, c.region.ensures) at c.in_ok-ask_all.ensures.answer in
    let a = rw c.region.ensures at c.in_ok-ask_all.ensures.asked in
    let s = rw c.in-Cut.is at c.in_ok-ask_all.ensures.given in
    let w = rw c.if-not-is_left.true at c.in_ok-is_left-in-Cut.ensures.written in
    let named = cut_named _ c.args.p.now.sound _ c.in-Cut.element c.in-Cut.part c.in-Cut.reason c.requires.ground.trail.region.legal h (search rules) in
    look_empty _ _ _ c.args.progress.now _ _ _ _ _ c.in-Cut.element c.in-Cut.part c.in-Cut.reason _ h named (same_sets _ _ done.sets) (done.none c.if-not-is_left.true) w (asked_told _ _ _ _ _ _ a s done.same)

pub returns-else-not-is_left-clause-smaller : goal.returns-else-not-is_left-clause-smaller
returns-else-not-is_left-clause-smaller g c =
    let done = c.in_ok-is_left-in-Cut.ensures in
    let h = rw (c.in-Cut.is, c.region.ensures) at c.in_ok-ask_all.ensures.answer in
    λ _. fewer_left c.args.p.now.given (sets c.args.ground.now.trail.region) (sets c.cut.new.ground.trail.region) c.in-Cut.element c.in-Cut.part c.in-Cut.reason h (same_sets _ _ done.sets)

pub returns-else-not-is_left-clause-works : goal.returns-else-not-is_left-clause-works
returns-else-not-is_left-clause-works g c =
    let done = c.in_ok-is_left-in-Cut.ensures in
    let h = rw (c.in-Cut.is, c.region.ensures) at c.in_ok-ask_all.ensures.answer in
    let a = rw c.region.ensures at c.in_ok-ask_all.ensures.asked in
    let s = rw c.in-Cut.is at c.in_ok-ask_all.ensures.given in
    let w = rw c.if-not-is_left.false at c.in_ok-is_left-in-Cut.ensures.written in
    let named = cut_named _ c.args.p.now.sound _ c.in-Cut.element c.in-Cut.part c.in-Cut.reason c.requires.ground.trail.region.legal h (search rules) in
    look_cut _ _ _ c.args.progress.now _ _ _ _ _ c.in-Cut.element c.in-Cut.part c.in-Cut.reason _ h named (same_sets _ _ done.sets) w (asked_told _ _ _ _ _ _ a s done.same)
