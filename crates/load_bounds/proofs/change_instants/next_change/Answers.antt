use Rattle.base.proofs.Public.{get_or, arith, Contains-get_or}
use Rattle.load_bounds.proofs.change_instants.next_change.Goals as goal

pub bounds-kept-v : goal.bounds-kept-v
bounds-kept-v c = omega (arith, c.requires.kept.standing.count, c.requires.kept.near.machines.each (get_or c.args.kept.near.now c.loop-i.i 0) (Contains-get_or c.args.kept.near.now c.loop-i.i 0 c.loop-i-test.true))

pub next_of_machine-next-requires-clause-machine : goal.next_of_machine-next-requires-clause-machine
next_of_machine-next-requires-clause-machine c = c.requires.kept.near.machines.each (get_or c.args.kept.near.now c.loop-i.i 0) (Contains-get_or c.args.kept.near.now c.loop-i.i 0 c.loop-i-test.true)
