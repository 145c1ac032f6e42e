use Rattle.rule_pair.proofs.Prelude.{arith, length, no_row, slice_index_or, ℕ, ◌+◌, ◌<◌}
use Rattle.std.proofs.Common.{◌-◌, ◌/◌}
use Rattle.rule_pair.specs.Prelude.{place_index}
use Rattle.rule_pair.proofs.ReachLemmas.{all_before}
use Rattle.rule_pair.proofs.reach.rows_before.Goals as goal

pub loop-low-preserved-then-number_of-number : goal.loop-low-preserved-then-number_of-number
loop-low-preserved-then-number_of-number c =
    let m : ℕ = c.loop-low.low + (c.loop-low.high - c.loop-low.low) / 2 in
    let low : m < length c.args.rows.now = omega (arith, c.loop-low.invariant.within, c.loop-low-test.true) in
    let here : place_index (slice_index_or c.args.rows.now m no_row).place < c.args.number = omega (arith, c.number_of.ensures, c.if-number_of-number.true) in
    record {
      order = omega (arith, c.loop-low-test.true);
      within = c.loop-low.invariant.within;
      before = all_before c.args.rows.now m c.args.number c.requires.climbs low here;
    }
