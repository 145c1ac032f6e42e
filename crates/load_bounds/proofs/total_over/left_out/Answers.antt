use Rattle.load_bounds.proofs.Prelude.{◌≢◌, ◌≤◌, rules, sym, subst, arith, Contains, machine_count}
use Rattle.load_bounds.proofs.total_over.left_out.Goals as goal

pub returns-then-v-machines-clause-none : goal.returns-then-v-machines-clause-none
returns-then-v-machines-clause-none c = λ g w low out.
    let past : machine_count c.args.p.now.given ≤ c.in_ok-v.v.0 = search (rules, c.if-v-machines.true, c.machines.ensures.machines, c.cluster.ensures.cluster) in
    let other : w ≢ c.in_ok-v.v.0 = omega (arith, low, past) in
    c.in_ok-v.ensures g w other

pub returns-then-has-clause-none : goal.returns-then-has-clause-none
returns-then-has-clause-none c = λ g w low out. c.in_ok-v.ensures g w (λ same. out (subst (λ k. Contains c.args.movers.now.top k) (sym same) (c.has.ensures.0 c.if-has.true)))
