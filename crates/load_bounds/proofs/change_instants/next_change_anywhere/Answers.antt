use Rattle.base.proofs.Public.{get_or, arith, Contains-get_or}
use Rattle.load_bounds.proofs.change_instants.next_change_anywhere.Goals as goal

pub bounds-ks-machines : goal.bounds-ks-machines
bounds-ks-machines c = omega (arith, c.requires.count, c.requires.machines.each (get_or c.args.machines.now c.loop-i.i 0) (Contains-get_or c.args.machines.now c.loop-i.i 0 c.loop-i-test.true))
