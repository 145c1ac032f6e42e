use Rattle.rule_setload.proofs.Prelude.{get_or, arith, Contains-get_or, has_node, machine_count, sets, few_once}
use Rattle.rule_setload.proofs.AmountLemmas.{all_extra, take_extra}
use Rattle.rule_setload.proofs.movers_hold.extra_of.Goals as goal

pub extra-total-requires-clause-machine : goal.extra-total-requires-clause-machine
extra-total-requires-clause-machine c = c.requires.machines.each (get_or c.args.machines.now c.loop-i.i 0) (Contains-get_or c.args.machines.now c.loop-i.i 0 c.loop-i-test.true)

pub overflow_add-total : goal.overflow_add-total
overflow_add-total c =
    let few = few_once c.args.machines.now (machine_count c.args.p.now.given) c.requires.machines.once c.requires.machines.each in
    omega (arith, few, c.loop-i-test.true, c.loop-i.invariant.small, c.extra-total.ensures.small, c.args.p.now.sound.inventory.few_machines)

pub loop-i-preserved : goal.loop-i-preserved
loop-i-preserved c = record {
  extra = take_extra c.args.p.now.given (sets c.args.g.now) c.args.bound.now.weight (has_node c.args.bound.now.nodes) c.args.machines.now c.loop-i.i c.loop-i.total c.extra-total.result c.loop-i-test.true c.loop-i.invariant.extra c.extra-total.ensures.extra;
  small = omega (arith, c.loop-i.invariant.small, c.extra-total.ensures.small);
}

pub returns : goal.returns
returns c =
    let few = few_once c.args.machines.now (machine_count c.args.p.now.given) c.requires.machines.once c.requires.machines.each in
    record {
      extra = all_extra c.args.p.now.given (sets c.args.g.now) c.args.bound.now.weight (has_node c.args.bound.now.nodes) c.args.machines.now c.loop-i.i c.loop-i.total c.loop-i-test.false c.loop-i.invariant.extra;
      small = omega (arith, few, c.loop-i.auto.i-end, c.loop-i.invariant.small, c.args.p.now.sound.inventory.few_machines);
    }
