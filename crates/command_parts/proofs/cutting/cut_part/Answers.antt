use Rattle.std.proofs.Common.{◌≡◌, ◌∙◌, ◌<◌, ap, arith, length, Ok, slice_index_or, sym}
use Rattle.command_parts.specs.Prelude.{part_number, part_of}
use Rattle.partition.proofs.Public.{part_is}
use Rattle.command_parts.proofs.CutAnswers.{ends_numbered, leaves_numbered}
use Rattle.command_parts.proofs.cutting.cut_part.Goals as goal

-- the number is that of a group, and the problem is its part
pub returns-clause-ends : goal.returns-clause-ends
returns-clause-ends g c = λ told printed.
    let p = c.args.p.now.given in
    let groups = c.args.g.now.groups.items in
    let i = c.in_ok-i.i in
    let count : c.len-count.result ≡ length groups = omega (arith, c.len-count.ensures) in
    let within : i < length groups = omega (arith, c.in_ok-i.ensures.within, count) in
    let read : part_number (length groups) c.args.number ≡ Ok i = ap (λ n. part_number n c.args.number) (sym count) ∙ c.in_ok-i.ensures.reading in
    let at : c.index-parts-i.result ≡ slice_index_or c.args.g.now.split.parts i c.index-parts-i.result = c.index-parts-i.is ∙ ap (λ parts. slice_index_or parts i c.index-parts-i.result) c.parts.ensures in
    let part : c.index-parts-i.result.given ≡ part_of p groups i = part_is p groups c.args.g.now.split c.requires.split i within c.index-parts-i.result at in
    ends_numbered c.args.number c.args.part_file.now p groups i _ _ c.end_cut.result read (c.end_cut.ensures.ends told p groups c.requires.split.split within count part printed)

pub returns-clause-left : goal.returns-clause-left
returns-clause-left g c = λ told.
    let p = c.args.p.now.given in
    let groups = c.args.g.now.groups.items in
    let i = c.in_ok-i.i in
    let count : c.len-count.result ≡ length groups = omega (arith, c.len-count.ensures) in
    let within : i < length groups = omega (arith, c.in_ok-i.ensures.within, count) in
    let read : part_number (length groups) c.args.number ≡ Ok i = ap (λ n. part_number n c.args.number) (sym count) ∙ c.in_ok-i.ensures.reading in
    let at : c.index-parts-i.result ≡ slice_index_or c.args.g.now.split.parts i c.index-parts-i.result = c.index-parts-i.is ∙ ap (λ parts. slice_index_or parts i c.index-parts-i.result) c.parts.ensures in
    let part : c.index-parts-i.result.given ≡ part_of p groups i = part_is p groups c.args.g.now.split c.requires.split i within c.index-parts-i.result at in
    leaves_numbered c.args.number c.args.part_file.now p groups c.index-parts-i.result.given i _ _ read part (c.end_cut.ensures.left told)
