use Rattle.load_bounds.proofs.Prelude.{slice_index_or, get_or, arith, Contains-get_or, Amount, machine_count, most_kept, no_standing, sets, few_once, sum_whole}
use Rattle.load_bounds.proofs.UseLemmas.{near_sum}
use Rattle.load_bounds.proofs.uses.most_used.Goals as goal

pub bounds-kept-v : goal.bounds-kept-v
bounds-kept-v c = omega (arith, c.requires.kept.standing.count, c.requires.kept.near.machines.each (get_or c.args.kept.near.now c.loop-i.i 0) (Contains-get_or c.args.kept.near.now c.loop-i.i 0 c.loop-i-test.true))

pub most_kept-total-requires-clause-machine : goal.most_kept-total-requires-clause-machine
most_kept-total-requires-clause-machine c = c.requires.kept.near.machines.each (get_or c.args.kept.near.now c.loop-i.i 0) (Contains-get_or c.args.kept.near.now c.loop-i.i 0 c.loop-i-test.true)

pub overflow_add-total : goal.overflow_add-total
overflow_add-total c =
    let few = few_once c.args.kept.near.now (machine_count c.args.p.now.given) c.requires.kept.near.machines.once c.requires.kept.near.machines.each in
    omega (arith, few, c.loop-i-test.true, c.loop-i.invariant.small, c.most_kept-total.ensures.small, c.args.p.now.sound.inventory.few_machines)

pub returns : goal.returns
returns c =
    let few = few_once c.args.kept.near.now (machine_count c.args.p.now.given) c.requires.kept.near.machines.once c.requires.kept.near.machines.each in
    record {
      sum = near_sum c.args.p.now.given (sets c.args._g.now) c.args.n.0 c.args.kept.fixed.now c.args.kept.standings.now c.args.kept.near.now c.args.kept.firsts.now (Amount c.args.r) c.args.x c.loop-i.total c.requires.kept
          (sum_whole (λ v. most_kept c.args.p.now.given v (Amount c.args.r) c.args.n.0 c.args.x (slice_index_or c.args.kept.standings.now v no_standing)) c.args.kept.near.now c.loop-i.i c.loop-i.total c.loop-i-test.false c.loop-i.invariant.total);
      small = omega (arith, few, c.loop-i.auto.i-end, c.loop-i.invariant.small, c.args.p.now.sound.inventory.few_machines);
    }
