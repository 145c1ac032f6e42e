use Rattle.closing.proofs.Prelude.{arith, sets, StartsPast, vm, each_member}
use Rattle.closing.proofs.EndLemmas.{no_change_instant_of}
use Rattle.closing.proofs.shared.change_instants.next_of_some.Goals as goal

pub returns-clause-change_instants : goal.returns-clause-change_instants
returns-clause-change_instants c =
    let inv = c.loop-i.invariant in
    no_change_instant_of c.args.p.now.given c.args.g.now c.args.machines.now c.args.after c.loop-i.next (λ h. omega (arith, c.last_instant-last.ensures.last h, inv.less)) (omega (arith, c.last_instant-last.ensures.most, inv.less))
    (each_member (λ v. StartsPast (sets c.args.g.now (vm v)) c.args.after c.loop-i.next) c.args.machines.now c.loop-i.i (omega arith) inv.machines)
