use Rattle.rule_setload.proofs.Prelude.{arith}
use Rattle.rule_setload.proofs.SpanLemmas.{all_before, all_behind}
use Rattle.rule_setload.proofs.span.count_before.Goals as goal

pub loop-from-preserved-then-is_before : goal.loop-from-preserved-then-is_before
loop-from-preserved-then-is_before c = record {
  order = omega arith;
  within = omega (arith, c.loop-from.invariant.within);
  before = all_before c.args.rows.now c.requires c.probe-middle.result c.args.n _ (omega (arith, c.loop-from.invariant.within)) (c.is_before.ensures.before c.if-is_before.true);
  behind = c.loop-from.invariant.behind;
}

pub loop-from-preserved : goal.loop-from-preserved
loop-from-preserved c = record {
  order = omega arith;
  within = omega (arith, c.loop-from.invariant.within);
  before = c.loop-from.invariant.before;
  behind = all_behind c.args.rows.now c.requires c.probe-middle.result c.args.n _ (omega (arith, c.loop-from.invariant.within)) (c.is_before.ensures.behind c.if-is_before.false);
}
