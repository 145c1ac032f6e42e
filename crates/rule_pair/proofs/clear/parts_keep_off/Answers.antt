use Rattle.rule_pair.proofs.Prelude.{arith, KeepsOff, sets}
use Rattle.rule_pair.proofs.ApartLemmas.{each_part, next_part}
use Rattle.rule_pair.proofs.clear.parts_keep_off.Goals as goal

pub loop-j-preserved : goal.loop-j-preserved
loop-j-preserved c =
    next_part (λ k w. KeepsOff c.args.p.now.given (sets c.args.g.now) c.args.table.now k c.args.from w) c.args.parts.now c.items.result.now c.index-parts-j.result c.loop-j.j c.loop-j-test.true c.items.ensures c.index-parts-j.is c.loop-j.invariant
    c.in-Clear.ensures

pub returns : goal.returns
returns c = each_part (λ k w. KeepsOff c.args.p.now.given (sets c.args.g.now) c.args.table.now k c.args.from w) c.args.parts.now c.loop-j.j (omega arith) c.loop-j.invariant
