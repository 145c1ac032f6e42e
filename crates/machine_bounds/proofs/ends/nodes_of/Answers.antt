use Rattle.base.proofs.Public.{arith, slice_index_or, ◌∙◌}
use Rattle.std.proofs.Common.{bit_or, ◌%◌, ◌*◌, ◌/◌, ◌^◌}
use Rattle.std.proofs.lemmas.List.{length-set}
use Rattle.machine_bounds.proofs.EndLemmas.{bits_more, bits_still}
use Rattle.machine_bounds.proofs.ends.nodes_of.Goals as goal
use Rattle.machine_bounds.proofs.ends.nodes_of.Goals.{then-until-n, else-until-n}

pub loop-n-preserved : goal.loop-n-preserved
loop-n-preserved c = elim c.if-until-n.branch [
  | then-until-n w ↦ rw w.nodes-is (record {
    count = length-set c.loop-n.nodes (c.loop-n.n / 64) (bit_or (slice_index_or c.loop-n.nodes (c.loop-n.n / 64) 0) (1 * 2 ^ (c.loop-n.n % 64) % 2 ^ 64)) ∙ c.loop-n.invariant.count;
    each = bits_more c.args.until.now c.loop-n.nodes c.args.from c.loop-n.n (omega (arith, c.loop-n.invariant.count, c.loop-n-test.true)) c.loop-n.invariant.each;
  })
  | else-until-n w ↦ rw w.nodes-is (record {
    count = c.loop-n.invariant.count;
    each = bits_still c.args.until.now c.loop-n.nodes c.args.from c.loop-n.n (omega (arith, w.if-until-n.false, c.from.ensures)) c.loop-n.invariant.each;
  })
]
