use Rattle.profiles.proofs.Prelude.{rules, ◌≤◌, arith, machine_count, sets}
use Rattle.profiles.proofs.MoverLemmas.{all_told}
use Rattle.profiles.proofs.movers.Movers.put_all.Goals as goal

pub returns-clause-top : goal.returns-clause-top
returns-clause-top c =
    let all : machine_count c.args.p.now.given ≤ c.loop-i.i = search (rules, c.loop-i-test.false, c.machines-i-end.ensures.machines, c.cluster.ensures.cluster) in
    all_told c.args.p.now.given (sets c.args.g.now) c.loop-i.self.top c.loop-i.invariant.machines (λ v low. c.loop-i.invariant.told v (omega (arith, low, all)))
