use Rattle.quick_checks.proofs.Prelude.{arith, ltb-true, node_count, one, seen, sure}
use Rattle.reasons.specs.Prelude.{HasOutside}
use Rattle.quick_checks.proofs.ScatteredLemmas.{below_next, nodes_scattered}
use Rattle.quick_checks.proofs.scattered.are_apart.Goals as goal

pub loop-n-preserved : goal.loop-n-preserved
loop-n-preserved c =
    below_next (λ k. HasOutside (sure c.args.p.now.given (seen c.args.view.now.region.now c.args.view.now.lens) c.args.t) c.args.machines.now (one k)) c.loop-n.n c.loop-n.invariant (c.has_one_in.ensures c.if-not-has_one_in.false)

pub returns : goal.returns
returns c =
    λ yes. nodes_scattered (sure c.args.p.now.given (seen c.args.view.now.region.now c.args.view.now.lens) c.args.t) c.args.machines.now (node_count c.args.p.now.given) (omega (arith, ltb-true _ _ yes)) (λ k l. c.loop-n.invariant k (omega arith))
