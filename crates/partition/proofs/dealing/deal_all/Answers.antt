use Rattle.base.proofs.Public.{◌<◌, arith, length}
use Rattle.partition.specs.Cutting.{list_at}
use Rattle.partition.proofs.DealLemmas.{dealt_more}
use Rattle.partition.proofs.dealing.deal_all.Goals as goal

pub loop-constraint-preserved : goal.loop-constraint-preserved
loop-constraint-preserved c = λ j l.
    let within : j < length c.loop-constraint.lists = omega arith in
    dealt_more c.args.d.now c.args.numbers.now j c.args.constraints.now c.loop-constraint.constraint-index c.constraint-item.result _ (list_at c.loop-constraint.lists j) _ c.loop-constraint-test.true c.constraint-item.is
    (c.loop-constraint.invariant j within) (c.in_ok-put_shares.ensures.each j within)
