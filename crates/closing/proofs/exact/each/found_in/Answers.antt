use Rattle.closing.proofs.{Prelude.arith, Prelude.IsFreeOf, Prelude.sets, Prelude.each_member, MemberLemmas.any_free}
use Rattle.closing.proofs.exact.each.found_in.Goals as goal

pub returns : goal.returns
returns g c =
    any_free (g.M.OfMachine.met c.args.each.now c.args.p.now.given) c.args.p.now.given (sets c.args.g.now) c.args.t c.args.machines.now
    (each_member (λ v. IsFreeOf (g.M.OfMachine.met c.args.each.now c.args.p.now.given v) c.args.p.now.given (sets c.args.g.now) c.args.t) c.args.machines.now c.loop-i.i (omega arith) c.loop-i.invariant)
