use Rattle.base.proofs.Public.{◌≡◌, ◌<◌, ◌∙◌, List, ap, arith, length, slice_index_or, sym}
use Rattle.catalogue.specs.Prelude.{SoundInstance}
use Rattle.part_solver.proofs.SolvedLemmas.{ends_after_all, ends_with, is_next, one_before}
use Rattle.part_solver.proofs.solving.solve_all.Goals as goal

pub loop-i-preserved : goal.loop-i-preserved
loop-i-preserved g c =
    let split = c.args.split.now in
    let i = c.loop-i.i in
    let at = c.index-parts-i.is ∙ ap (λ (parts : List SoundInstance). slice_index_or parts c.loop-i.i c.index-parts-i.result) c.parts-parts.ensures in
    let within : c.loop-i.i < length c.args.split.now.parts = omega (arith, c.loop-i-test.true, ap length c.parts-parts.ensures) in
    let next = is_next split c.args.budget i c.index-parts-i.result c.in_ok-part.part at within c.in_ok-part.ensures in
    rw c.in_ok-push.ensures.items (one_before split c.args.budget c.loop-i.solved.items i c.in_ok-part.part c.loop-i.invariant next (sym c.if-ends.ensures))

pub returns-then-ends : goal.returns-then-ends
returns-then-ends g c =
    let split = c.args.split.now in
    let i = c.loop-i.i in
    let at = c.index-parts-i.is ∙ ap (λ (parts : List SoundInstance). slice_index_or parts c.loop-i.i c.index-parts-i.result) c.parts-parts.ensures in
    let within : c.loop-i.i < length c.args.split.now.parts = omega (arith, c.loop-i-test.true, ap length c.parts-parts.ensures) in
    let next = is_next split c.args.budget i c.index-parts-i.result c.in_ok-part.part at within c.in_ok-part.ensures in
    rw c.in_ok-push.ensures.items (ends_with split c.args.budget c.loop-i.solved.items i c.in_ok-part.part c.loop-i.invariant next (sym c.if-ends.ensures) within)

pub returns : goal.returns
returns g c =
    let all : c.loop-i.i ≡ length c.args.split.now.parts = omega (arith, c.loop-i-test.false, c.loop-i.auto.i-end, ap length c.parts-parts.ensures) in
    ends_after_all c.args.split.now c.args.budget c.loop-i.solved.items c.loop-i.i c.loop-i.invariant all
