use Rattle.relax.proofs.Prelude.{◌≡◌, ℕ, false, arith, each_member, nodes_of, seen, sure}
use Rattle.relax.proofs.groups.find_in.Goals as goal

pub returns-clause-none : goal.returns-clause-none
returns-clause-none c =
    each_member
    (λ v. (sure c.args.p.now.given (seen c.args.view.now.region.now c.args.view.now.lens) c.args.t).present v (nodes_of c.args.p.now.given c.args.area.now) ≡ false)
    c.args.machines.now c.loop-i.i (omega arith) c.loop-i.invariant
