use Rattle.base.proofs.Public.{arith}
use Rattle.partition.proofs.Public.{part_count, part_is}
use Rattle.part_check.proofs.JudgeLemmas.{alone_gives, alone_sound}
use Rattle.part_check.proofs.sections.judge_body.Goals as goal

pub part_at-requires : goal.part_at-requires
part_at-requires g c = omega (arith, part_count c.args.p.now.given c.args.groups.now c.args.split.now c.requires.split, c.requires.part)

pub returns-in-None-clause-gives : goal.returns-in-None-clause-gives
returns-in-None-clause-gives g c = λ some.
    let p = c.args.p.now.given in
    let groups = c.args.groups.now in
    let same = part_is p groups c.args.split.now c.requires.split c.args.i c.requires.part c.part_at.result.now c.part_at.ensures in
    rw c.in-None.is (alone_gives p groups c.args.i c.part_at.result.now.given same c.args.body.now c.check_text.result (c.check_text.ensures.verdict some))

pub returns-in-None-clause-sound : goal.returns-in-None-clause-sound
returns-in-None-clause-sound g c =
    let p = c.args.p.now.given in
    let groups = c.args.groups.now in
    let same = part_is p groups c.args.split.now c.requires.split c.args.i c.requires.part c.part_at.result.now c.part_at.ensures in
    rw c.in-None.is (alone_sound p groups c.args.i c.part_at.result.now.given same c.check_text.result c.check_text.ensures.sound)
