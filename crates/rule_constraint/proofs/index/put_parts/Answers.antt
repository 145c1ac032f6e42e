use Rattle.std.proofs.Common.{arith}
use Rattle.rule_constraint.proofs.IndexLemmas.{part_within, parts_more, put_fewer, put_then}
use Rattle.rule_constraint.proofs.index.put_parts.Goals as goal

pub loop-i-preserved : goal.loop-i-preserved
loop-i-preserved c =
    put_then _ _ _ _ _ _ _ (λ v at. parts_more c.args.parts.now c.index-parts-i.result c.items.result.now c.loop-i.i v c.loop-i-test.true c.items.ensures c.index-parts-i.is at)
    c.loop-i.invariant c.in_ok-put_machines.ensures

pub returns : goal.returns
returns c = put_fewer _ _ _ _ _ (λ v h. (h.0, part_within c.args.parts.now c.loop-i.i h.0 v (omega arith) h.1, h.1)) c.loop-i.invariant
