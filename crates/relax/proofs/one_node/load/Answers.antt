use Rattle.relax.proofs.{Prelude.sym, Prelude.arith, Prelude.Amount, Prelude.sure, OneNodeLemmas.sum_of_more, OneNodeLemmas.sum_of_next}
use Rattle.relax.proofs.one_node.load.Goals as goal

pub loop-i-init : goal.loop-i-init
unfolding sure
loop-i-init c =
    let first = c.next_near-i.ensures in
    record {
      total = sym (sum_of_more 0 c.next_near-i.result _ first.later (λ k from to. first.between k from to (Amount c.args.r) c.args.t));
      small = omega arith;
      within = first.within;
    }

pub loop-i-preserved : goal.loop-i-preserved
unfolding sure
loop-i-preserved c =
    let next = c.next_near-i-in-loop-i.ensures in
    let was = c.loop-i.invariant in
    record {
      total = sum_of_next c.loop-i.i c.next_near-i-in-loop-i.result c.loop-i.total c.least_held-total.result _ was.total c.least_held-total.ensures.held next.later (λ k from to. next.between k from to (Amount c.args.r) c.args.t);
      small = omega (arith, was.small, c.least_held-total.ensures.small, next.later);
      within = next.within;
    }
