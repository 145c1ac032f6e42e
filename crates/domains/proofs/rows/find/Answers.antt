use Rattle.std.proofs.Common.{◌<◌, arith, subst}
use Rattle.domains.proofs.RowLemmas.{rows_below, rows_far_above, rows_above, rows_far_below}
use Rattle.domains.proofs.rows.find.Goals as goal

pub loop-from-preserved-then-here-key-2 : goal.loop-from-preserved-then-here-key-2
loop-from-preserved-then-here-key-2 c =
    let less = subst (λ n. n < c.index-key.result) c.index-here.ensures c.if-here-key-2.true in
    record {
      order = omega arith;
      within = omega arith;
      below = rows_below c.args.rows.now c.probe-middle.result c.index-key.result _ c.requires (omega arith) less;
      above = λ k d u h. rows_far_above c.args.rows.now c.probe-middle.result c.index-key.result _ c.requires (omega arith) less c.loop-from.to c.loop-from.invariant.above k d (omega (arith, u, c.min.ensures, c.index-here.ensures)) h;
    }

pub loop-from-preserved : goal.loop-from-preserved
loop-from-preserved c =
    let more = subst (λ n. c.index-key.result < n) c.index-here.ensures (omega arith) in
    record {
      order = omega arith;
      within = omega arith;
      below = λ k d u. rows_far_below c.args.rows.now c.probe-middle.result c.index-key.result _ c.requires (omega arith) more c.loop-from.from c.loop-from.invariant.below k d (omega (arith, u, c.min-else-here-key-2.ensures, c.index-here.ensures));
      above = rows_above c.args.rows.now c.probe-middle.result c.index-key.result _ c.requires (omega arith) more;
    }
