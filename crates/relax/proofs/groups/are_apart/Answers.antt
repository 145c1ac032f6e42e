use Rattle.relax.proofs.Prelude.{arith, ltb-true, HasOutside, node_count, one, seen, sure, below_more}
use Rattle.relax.proofs.MemberLemmas.{nodes_not_scattered, nodes_scattered}
use Rattle.relax.proofs.groups.are_apart.Goals as goal

pub returns-in-None-clause-no : goal.returns-in-None-clause-no
returns-in-None-clause-no c =
    λ _. nodes_not_scattered (sure c.args.p.now.given (seen c.args.view.now.region.now c.args.view.now.lens) c.args.t) c.args.machines.now (node_count c.args.p.now.given) c.loop-n.n (omega arith) c.in-None.ensures.none

pub loop-n-preserved : goal.loop-n-preserved
loop-n-preserved c =
    below_more (λ k. HasOutside (sure c.args.p.now.given (seen c.args.view.now.region.now c.args.view.now.lens) c.args.t) c.args.machines.now (one k)) c.loop-n.n c.loop-n.invariant c.in-Some.ensures.some

pub returns-clause-yes : goal.returns-clause-yes
returns-clause-yes c =
    λ t. nodes_scattered (sure c.args.p.now.given (seen c.args.view.now.region.now c.args.view.now.lens) c.args.t) c.args.machines.now (node_count c.args.p.now.given) (omega (arith, ltb-true _ _ t)) (λ k l. c.loop-n.invariant k (omega arith))
