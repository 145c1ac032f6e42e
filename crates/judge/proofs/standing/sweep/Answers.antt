use Rattle.std.proofs.Common.{arith}
use Rattle.judge.specs.Prelude.{Amount, choices_of, one, snapshot_at}
use Rattle.judge.proofs.{Stances.usable_where, Stances.usable_more, Tables.sum_more}
use Rattle.judge.proofs.standing.sweep.Goals as goal

pub loop-i-preserved : goal.loop-i-preserved
loop-i-preserved c =
    let s = snapshot_at c.args.p.now.given (choices_of c.args.plan.now) c.args.t in
    let where_ok = usable_where c.args.p.now.given s c.loop-i.i c.holding_at-now.result c.usable_nodes-nodes.result c.holding_at-now.ensures c.usable_nodes-nodes.ensures in
    record {
      sums = λ n r low. sum_more (λ v. s.held v (Amount r) (one n)) c.loop-i.i _ _ _ _ (c.loop-i.invariant.sums n r low) (c.holding_at-now.ensures.amounts r (one n)) (c.add_both.ensures.sums n r low);
      small = λ n r. omega (arith, c.loop-i.invariant.small n r, c.add_both.ensures.small n r);
      usable = usable_more c.args.p.now.given s c.loop-i.i _ _ c.loop-i.invariant.usable (
        λ here. where_ok.0 (c.stands_usably-here.ensures.0 here),
        λ stands. c.stands_usably-here.ensures.1 (where_ok.1 stands),
      );
    }
