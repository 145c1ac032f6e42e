use Rattle.closing.proofs.{Prelude.arith, EndLemmas.no_change_instant}
use Rattle.closing.proofs.shared.change_instants.next_of_all.Goals as goal

pub returns-clause-change_instants : goal.returns-clause-change_instants
returns-clause-change_instants c =
    let inv = c.loop-n.invariant in
    no_change_instant c.args.p.now.given c.args.g.now c.args.after c.loop-n.next c.requires.region (λ h. omega (arith, c.last_instant-last.ensures.last h, inv.less)) (omega (arith, c.last_instant-last.ensures.most, inv.less)) inv.machines (λ n h. inv.nodes n (omega (arith, h)))
