use Rattle.load_bounds.proofs.Prelude.{get_or, refl, arith, Contains-get_or, Amount, machine_count, one, seen, sure, few_once, sum_whole}
use Rattle.load_bounds.proofs.OverLemmas.{sum_front}
use Rattle.load_bounds.proofs.over.near_use.Goals as goal

pub near_one-total-requires-clause-machine : goal.near_one-total-requires-clause-machine
near_one-total-requires-clause-machine c = c.requires.kept.near.machines.each (get_or c.args.kept.near.now c.loop-i.i 0) (Contains-get_or c.args.kept.near.now c.loop-i.i 0 c.loop-i-test.true)

pub overflow_add-total : goal.overflow_add-total
overflow_add-total c =
    let few = few_once c.args.kept.near.now (machine_count c.args.p.now.given) c.requires.kept.near.machines.once c.requires.kept.near.machines.each in
    omega (arith, few, c.loop-i-test.true, c.loop-i.invariant.small, c.near_one-total.ensures.small, c.args.p.now.sound.inventory.few_machines)

pub returns-then-total-enough-clause-sum : goal.returns-then-total-enough-clause-sum
returns-then-total-enough-clause-sum c = omega (arith, c.loop-i.invariant.total, sum_front (λ v. (sure c.args.p.now.given (seen c.args.view.now.region.now c.args.view.now.lens) c.args.t).held v (Amount c.args.r) (one c.args.n.0)) c.args.kept.near.now c.loop-i.i)

pub returns-then-total-enough-clause-small : goal.returns-then-total-enough-clause-small
returns-then-total-enough-clause-small c =
    let few = few_once c.args.kept.near.now (machine_count c.args.p.now.given) c.requires.kept.near.machines.once c.requires.kept.near.machines.each in
    omega (arith, few, c.loop-i-test.true, c.loop-i.invariant.small, c.args.p.now.sound.inventory.few_machines)

pub returns : goal.returns
returns c =
    let few = few_once c.args.kept.near.now (machine_count c.args.p.now.given) c.requires.kept.near.machines.once c.requires.kept.near.machines.each in
    record {
      sum = omega (arith, c.loop-i.invariant.total, sum_whole (λ v. (sure c.args.p.now.given (seen c.args.view.now.region.now c.args.view.now.lens) c.args.t).held v (Amount c.args.r) (one c.args.n.0)) c.args.kept.near.now c.loop-i.i _ c.loop-i-test.false refl);
      small = omega (arith, few, c.loop-i.auto.i-end, c.loop-i.invariant.small, c.args.p.now.sound.inventory.few_machines);
    }
