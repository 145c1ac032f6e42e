use Rattle.base.proofs.Public.{◌∙◌, ℕ, arith, ap, length, map, range_with_len}
use Rattle.parts.specs.Laws.{Split}
use Rattle.partition.specs.Cutting.{list_at, part_by}
use Rattle.partition.proofs.NumberingLemmas.{same_range}
use Rattle.partition.proofs.PartLemmas.{part_as, part_sound}
use Rattle.partition.proofs.splitting.parts_by.Goals as goal

pub parts_with-requires : goal.parts_with-requires
parts_with-requires c = λ i l.
    let split : Split c.args.p.now.given c.args.groups.now = record { sound = c.args.p.now.sound; are_groups = c.requires.divides.covers.are_groups; faultless = c.requires.faultless } in
    part_sound c.args.p.now.given c.args.groups.now split c.args.d.now c.args.numbers.now c.requires.divides c.requires.numbers i _ (c.in_ok-lists.ensures.dealt i (omega (arith, l, c.in_ok-lists.ensures.each)))

pub returns : goal.returns
returns c =
    let split : Split c.args.p.now.given c.args.groups.now = record { sound = c.args.p.now.sound; are_groups = c.requires.divides.covers.are_groups; faultless = c.requires.faultless } in
    c.in_ok-parts.ensures ∙ ap (λ (n : ℕ). map (λ i. part_by c.args.p.now.given c.args.d.now c.args.numbers.now i (list_at c.in_ok-lists.lists.items i)) (range_with_len 0 n)) c.in_ok-lists.ensures.each ∙
    same_range _ _ 0 (length c.args.groups.now) (λ i low high.
    part_as c.args.p.now.given c.args.groups.now split c.args.d.now c.args.numbers.now c.requires.divides c.requires.numbers i _ (c.in_ok-lists.ensures.dealt i (omega (arith, high))))
