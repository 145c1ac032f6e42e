use Rattle.base.proofs.Public.{arith, slice_index_or, ◌∙◌}
use Rattle.std.proofs.Common.{bit_or, ◌%◌, ◌*◌, ◌/◌, ◌^◌}
use Rattle.std.proofs.lemmas.List.{length-set}
use Rattle.machine_bounds.proofs.EndLemmas.{enough_more}
use Rattle.machine_bounds.proofs.ends.enough_of.Goals as goal
use Rattle.machine_bounds.proofs.ends.enough_of.Goals.{then-until-i, else-until-i}

pub loop-i-preserved : goal.loop-i-preserved
loop-i-preserved c = elim c.if-until-i.branch [
  | then-until-i w ↦ rw w.enough-is (record {
    count = length-set c.loop-i.enough (c.loop-i.i / 64) (bit_or (slice_index_or c.loop-i.enough (c.loop-i.i / 64) 0) (1 * 2 ^ (c.loop-i.i % 64) % 2 ^ 64)) ∙ c.loop-i.invariant.count;
    each = enough_more c.args.until.now c.args.bounds.now c.loop-i.enough c.loop-i.i (omega (arith, c.loop-i.invariant.count, c.loop-i-test.true)) w.if-until-i.true c.loop-i.invariant.each;
  })
  | else-until-i w ↦ rw w.enough-is (record { count = c.loop-i.invariant.count; each = c.loop-i.invariant.each })
]
