use Rattle.rule_group.proofs.Prelude.{arith}
use Rattle.rule_group.proofs.ElsewhereLemmas.{stands_under}
use Rattle.rule_group.proofs.refuting.spots_gone_to.Goals as goal

pub returns : goal.returns
returns c =
    stands_under c.args.p.now.given c.args.v c.in-At.n c.args.t c.in-Upto.last c.args.part c.in-Upto.place c.in-Upto.is c.in-At.is (c.moves_to.ensures c.if-not-moves_to.false) (omega (arith, c.ranges.t.fits)) (omega (arith, c.if-last-t.false))
