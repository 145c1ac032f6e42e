use Rattle.load_bounds.proofs.Prelude.{get_or, arith, Contains-get_or, machine_count, few_once, sum_whole}
use Rattle.load_bounds.proofs.total_over.beside_all.Goals as goal

pub beside_one-one-requires-clause-machine : goal.beside_one-one-requires-clause-machine
beside_one-one-requires-clause-machine c = c.requires.machines.each (get_or c.args.machines.now c.loop-i.i 0) (Contains-get_or c.args.machines.now c.loop-i.i 0 c.loop-i-test.true)

pub overflow_add-more : goal.overflow_add-more
overflow_add-more c =
    let few = few_once c.args.machines.now (machine_count c.args.p.now.given) c.requires.machines.once c.requires.machines.each in
    omega (arith, few, c.loop-i-test.true, c.loop-i.invariant.few_more, c.beside_one-one.ensures.few_more, c.args.p.now.sound.inventory.few_machines)

pub overflow_add-less : goal.overflow_add-less
overflow_add-less c =
    let few = few_once c.args.machines.now (machine_count c.args.p.now.given) c.requires.machines.once c.requires.machines.each in
    omega (arith, few, c.loop-i-test.true, c.loop-i.invariant.few_less, c.beside_one-one.ensures.few_less, c.args.p.now.sound.inventory.few_machines)

pub returns : goal.returns
returns c =
    let few = few_once c.args.machines.now (machine_count c.args.p.now.given) c.requires.machines.once c.requires.machines.each in
    record {
      more = sum_whole _ c.args.machines.now c.loop-i.i c.loop-i.more c.loop-i-test.false c.loop-i.invariant.more;
      less = sum_whole _ c.args.machines.now c.loop-i.i c.loop-i.less c.loop-i-test.false c.loop-i.invariant.less;
      few_more = omega (arith, few, c.loop-i.auto.i-end, c.loop-i.invariant.few_more, c.args.p.now.sound.inventory.few_machines);
      few_less = omega (arith, few, c.loop-i.auto.i-end, c.loop-i.invariant.few_less, c.args.p.now.sound.inventory.few_machines);
    }
